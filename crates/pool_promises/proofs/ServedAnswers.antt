-- Each request of a session of lines is answered.
use Rattle.std.proofs.Common.{◌≡◌, ℕ, true, Some, List, [], ◌∷◌, ◌++◌, take, refl, ap, subst, sym, ◌∙◌}
use Rattle.std.proofs.lemmas.Grind.{flat_map-append}
use Rattle.std.specs.List.{AllByRecursion}
use Rattle.pool_base.specs.Calls.{Faulted, Outcome, Replied}
use Rattle.pool_history.specs.declared.asking.Request.TheVariants as request
use Rattle.pool_history.specs.declared.events.Event.{Event}
use Rattle.pool_history.specs.declared.events.Role.{Role}
use Rattle.pool_history.specs.declared.refusals.BookError.{BookError}
use Rattle.pool_history.specs.declared.replies.Reply.{Reply}
use Rattle.pool_history.specs.declared.replies.Reply.TheVariants as reply
use Rattle.pool_history.specs.declared.settings.Rules.{Rules}
use Rattle.pool_history.specs.Calls.{IsGoodPoolCall, PoolCall}
use Rattle.pool_history.specs.Sessions.{mines, past_of, rules_of}
use Rattle.history_laws.specs.Serving.{Enters}
use Rattle.v1_sessions.specs.Laws.{IsAnswered, IsAnsweredBy}
use Rattle.v1_sessions.specs.States.{new_line_state}
use Rattle.v1_sessions.specs.Steps.{call_of, calls_of}
use Rattle.v1_sessions.proofs.Answered.{requests_are_answered}
use Rattle.pool_promises.specs.Presence.{FindsPresent, MakeHistory}
use Rattle.pool_promises.proofs.Lists.{all_parts}
use Rattle.pool_promises.proofs.Present.{rules_at_fronts, stay-present}
use Rattle.pool_promises.specs.Serving.{LineSessionsAreAnswered}
use Rattle.pool_promises.proofs.Calling.{BehindEnter, EnterAndAsk, lines_enter_and_ask, lines_of_worker, stay_inside}
use Rattle.pool_promises.proofs.Replying.{calls_answered, enter_answered}

-- ---- the calls of a session, among all

module _ (start history : List Event) (least most worker : ℕ) (earlier later others : List PoolCall) (role : Role) (rules : Rules) (are : rules_of (past_of start) ≡ Some rules)
    (may : mines role ≡ true) where
  -- what holds of all calls holds of those in a row
  in_a_row : (P : PoolCall → Type 0) (calls : List PoolCall) → AllByRecursion P ((earlier ++ (calls ++ later)) ++ others) → AllByRecursion P calls
  in_a_row P calls h =
      (all_parts P calls later (all_parts P earlier (calls ++ later) (all_parts P (earlier ++ (calls ++ later)) others h).0).1).0

  -- those behind the Enter, by how that was answered
  behind_answered : (enter : PoolCall) (calls : List PoolCall) → MakeHistory start history least most worker (earlier ++ ((enter ∷ calls) ++ later)) others
      → enter.worker ≡ worker → AllByRecursion (λ (c : PoolCall). c.worker ≡ worker) calls → enter.asked ≡ request.Enter role 0
      → AllByRecursion (IsGoodPoolCall history) calls → (o : Outcome Reply BookError) → enter.outcome ≡ o → IsAnsweredBy (request.Enter role 0) o → BehindEnter o calls
      → AllByRecursion IsAnswered calls
  behind_answered enter calls make own_enter own asked good (Faulted cause) is answered behind = subst (AllByRecursion IsAnswered) (sym behind) tt
  behind_answered enter calls make own_enter own asked good (Replied (reply.PoolFull full)) is answered behind = subst (AllByRecursion IsAnswered) (sym behind) tt
  behind_answered enter calls make own_enter own asked good (Replied (reply.Entered session)) is answered behind =
      let enters : Enters enter role 0 session = record { asked = asked; entered = is } in
      let finds : AllByRecursion (FindsPresent history enter.worker role 0 session) calls =
      stay-present start history least most earlier calls later others enter role 0 session
      (subst (λ w. MakeHistory start history least most w (earlier ++ enter ∷ (calls ++ later)) others) (sym own_enter) make) enters (stay_inside calls behind) in
      calls_answered history worker role 0 session may calls behind
      (subst (λ w. AllByRecursion (FindsPresent history w role 0 session) calls) own_enter finds) good own
  behind_answered enter calls make own_enter own asked good (Replied _) is answered behind = absurd answered

  all_answered : (calls : List PoolCall) → EnterAndAsk role calls → AllByRecursion (λ (c : PoolCall). c.worker ≡ worker) calls
      → MakeHistory start history least most worker (earlier ++ (calls ++ later)) others → AllByRecursion IsAnswered calls
  all_answered [] order own make = tt
  all_answered (enter ∷ calls) order own make =
      let good = in_a_row (IsGoodPoolCall history) (enter ∷ calls) make.good in
      let ruled = in_a_row (λ (c : PoolCall). rules_of (past_of (take c.front history)) ≡ Some rules) (enter ∷ calls)
      (rules_at_fronts start history least most ((earlier ++ ((enter ∷ calls) ++ later)) ++ others) rules make.parted are) in
      let answered : IsAnswered enter = enter_answered history enter good.0 role 0 rules ruled.0 order.0 in (
        answered,
        behind_answered enter calls make own.0 own.1 order.0 good.1 enter.outcome refl
            (subst (λ asked. IsAnsweredBy asked enter.outcome) order.0 answered) order.1,
      )

-- ---- so each id is answered

pub lines_answered : LineSessionsAreAnswered
lines_answered start history least most worker earlier later others terms manner steps last rules are may follows make =
    let calls : AllByRecursion IsAnswered (calls_of steps) =
    all_answered start history least most worker earlier later others manner.role rules are may (calls_of steps)
    (lines_enter_and_ask worker terms manner steps last follows) (lines_of_worker worker terms (new_line_state manner) last steps follows) make in
    record {
      calls = calls;
      ids = λ front back reached parts so reading test.
          requests_are_answered worker terms manner front reached so
          (all_parts IsAnswered (calls_of front) (calls_of back)
          (subst (AllByRecursion IsAnswered) (ap calls_of parts ∙ flat_map-append call_of front back) calls)).0 reading test;
    }
