-- Of calls whose numbers don't rise, one needn't find its session entered.
use Rattle.std.proofs.Common.{◌≡◌, ℕ, ◌+◌, List, [], ◌∷◌, ◌++◌, length, take, refl, ap, arith}
use Rattle.std.proofs.lemmas.List.{length-append}
use Rattle.std.proofs.lemmas.List.Sorted.{IsPermutation-swap}
use Rattle.std.specs.List.{AllByRecursion}
use Rattle.pool_base.specs.Calls.{Parted, PartsFrom, Replied}
use Rattle.pool_history.specs.declared.asking.Request.TheVariants as request
use Rattle.pool_history.specs.declared.events.Event.{Event}
use Rattle.pool_history.specs.declared.events.Event.TheVariants as event
use Rattle.pool_history.specs.declared.events.Role.{Role}
use Rattle.pool_history.specs.declared.events.Role.TheVariants as role
use Rattle.pool_history.specs.declared.replies.Reply.TheVariants as reply
use Rattle.std.specs.Prelude.{bit_and}
use Rattle.pool_history.specs.Calls.{IsGoodPoolCall, PoolCall}
use Rattle.pool_history.specs.Legal.{allowed_flags}
use Rattle.pool_history.proofs.Given.{enters, start}
use Rattle.history_laws.specs.Places.{HasEntered}
use Rattle.history_laws.specs.Serving.{Enters, FindsEntered}

-- a poll before the Enter, and the Enter
abbrev pub asks_early : PoolCall
asks_early = record {
  worker = 0;
  number = 0;
  front = 1;
  faults_before = 0;
  faults_after = 0;
  asked = request.Poll 0;
  outcome = Replied reply.NoSession;
  added = [];
}

abbrev pub enters_then : PoolCall
enters_then = record {
  worker = 0;
  number = 1;
  front = 1;
  faults_before = 0;
  faults_after = 0;
  asked = request.Enter role.Solo 0;
  outcome = Replied (reply.Entered 0);
  added = enters ∷ [];
}

abbrev pub entered_late : List Event
entered_late = start ∷ enters ∷ []

abbrev pub SessionsAskAnyhow : Type 0
SessionsAskAnyhow =
    (first history : List Event) (least most : ℕ) (earlier later others : List PoolCall) (enter : PoolCall) (role : Role) (flags session : ℕ)
    → Parted first history least most ((earlier ++ enter ∷ later) ++ others) → IsGoodPoolCall history enter → Enters enter role flags session
    → AllByRecursion (FindsEntered history (take enter.front history) enter.worker role flags session) later

both-in_order : PartsFrom (start ∷ []) 0 0 entered_late 0 (asks_early ∷ enters_then ∷ [])
both-in_order = (refl, refl, omega arith, omega arith, (refl, refl, omega arith, omega arith, (refl, omega arith)))

both-part : Parted (start ∷ []) entered_late 0 0 (enters_then ∷ asks_early ∷ [])
both-part = record {
  ordered = asks_early ∷ enters_then ∷ [];
  same = IsPermutation-swap (asks_early ∷ enters_then ∷ []) (enters_then ∷ asks_early ∷ []) 0 1 (omega arith) (omega arith) refl;
  parts = both-in_order;
}

enter-good : IsGoodPoolCall entered_late enters_then
enter-good = record {
  before = start ∷ [];
  after = [];
  stands = refl;
  at_front = refl;
  outcome = record { events_are = refl; reply_is = refl };
}

-- the history of the Start alone has no Enter
no-entered : (kept : ℕ) → HasEntered (start ∷ []) 0 role.Solo kept 0 → ⊥
no-entered kept h = none h.before h.parts where
  none : (before : List Event) → start ∷ [] ≡ before ++ event.Enter 0 role.Solo kept ∷ h.after → ⊥
  none [] same = differ same where
    differ : ◌≡◌ {A = List Event} (start ∷ []) (event.Enter 0 role.Solo kept ∷ h.after) → ⊥
    differ same = cc
  none (e ∷ before) same =
      let long : length (before ++ event.Enter 0 role.Solo kept ∷ h.after) ≡ length before + length (event.Enter 0 role.Solo kept ∷ h.after) =
      length-append before (event.Enter 0 role.Solo kept ∷ h.after) in
      let one : 1 ≡ length (e ∷ (before ++ event.Enter 0 role.Solo kept ∷ h.after)) = ap length same in
      omega (arith, one, long)

pub no-asking_anyhow : SessionsAskAnyhow → ⊥
no-asking_anyhow law =
    let f : FindsEntered entered_late (start ∷ []) 0 role.Solo 0 0 asks_early =
    (law (start ∷ []) entered_late 0 0 [] (asks_early ∷ []) [] enters_then role.Solo 0 0 both-part enter-good (record { asked = refl; entered = refl })).0 in
    no-entered (bit_and 0 (allowed_flags f.rules)) f.has_entered
