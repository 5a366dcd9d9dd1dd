-- Callers that were served one after the other were all served by calls of one pass.
use Rattle.std.proofs.Common.{◌≡◌, ℕ, List, [], ◌∷◌, ◌++◌, map, refl, sym, ap, subst, ◌∙◌}
use Rattle.pool_network.specs.Seen.{DoorSeen, LinkSeen}
use Rattle.session_steps.specs.declared.manner.Manner.{Manner}
use Rattle.v1_translate.specs.State.{Terms}
use Rattle.pool_sessions.specs.Courses.{calls_on}
use Rattle.door_threads.specs.declared.working.DoorEnd.{DoorEnd}
use Rattle.door_threads.specs.Asking.{DoorAnswer, IsAsked, Nobody, ServesEach, Somebody}
use Rattle.door_threads.specs.Asking as door
use Rattle.pool_server.specs.Visits.{Asking, AsksByPass, Visit}
use Rattle.pool_server.specs.Shifts.{Asked, AreVisits, IsWorked, ServesCaller, Serving, Visited, Waited, answer_of, calls_at}
use Rattle.pool_server.proofs.Asked.{asks_both, asks_none}

-- so many answers, with the sessions of those who came
pub record Visits (terms : Terms) (manner : Manner) (old : Asking) (answers : List DoorAnswer) (new : Asking) : Type 0 where
  pub asked : List Asked
  pub same : map answer_of asked ≡ answers
  pub visits : AreVisits terms manner old.pass.worker asked
  pub asks : AsksByPass old (calls_at asked) new

one_more : {terms : Terms} {manner : Manner} {answers : List DoorAnswer} (old middle new : Asking) (visit : Visit)
    → Visits terms manner middle answers new → AreVisits terms manner old.pass.worker (Visited visit ∷ []) → AsksByPass old (calls_on visit.course) middle
    → Visits terms manner old (Somebody visit.before visit.after ∷ answers) new
one_more {terms = terms} {manner = manner} old middle new visit rest is asks = record {
  asked = Visited visit ∷ rest.asked;
  same = ap (λ (l : List DoorAnswer). Somebody visit.before visit.after ∷ l) rest.same;
  visits = (is.0, subst (λ worker. AreVisits terms manner worker rest.asked) asks.goes_on.same.1 rest.visits);
  asks = asks_both old middle new (calls_on visit.course) (calls_at rest.asked) asks rest.asks;
}

module _ {S N P : Type 0} (at : S → Serving) (name : S → N) (pass_name : S → P) where
  -- one caller was served by whoever is served from here
  abbrev pub Serves : S → LinkSeen → LinkSeen → S → Type 0
  Serves old before after new = (name new ≡ name old) × (pass_name new ≡ pass_name old) × ServesCaller (at old) before after (at new)

  pub visits_each : (old new : S) (answers : List DoorAnswer) → ServesEach Serves old answers new
      → Visits (at old).terms (at old).manner (at old).asking answers (at new).asking × (name new ≡ name old) × (pass_name new ≡ pass_name old)
  visits_each old new [] each = (
    subst (λ (s : S). Visits (at old).terms (at old).manner (at old).asking [] (at s).asking) (sym each)
        (record { asked = []; same = refl; visits = tt; asks = asks_none (at old).asking }),
    ap name each,
    ap pass_name each,
  )
  visits_each old new (Nobody ∷ answers) each =
      let rest = visits_each old new answers each in (
        record { asked = Waited ∷ rest.0.asked; same = ap (λ (l : List DoorAnswer). Nobody ∷ l) rest.0.same; visits = rest.0.visits; asks = rest.0.asks },
        rest.1,
        rest.2,
      )
  visits_each old new (Somebody before after ∷ answers) each =
      let middle = each.0 in
      let first = each.1 in
      let rest = visits_each middle new answers each.2 in
      let caller = first.2 in
      let later : Visits (at old).terms (at old).manner (at middle).asking answers (at new).asking =
      subst (λ t. Visits t (at old).manner (at middle).asking answers (at new).asking) caller.same_terms
      (subst (λ m. Visits (at middle).terms m (at middle).asking answers (at new).asking) caller.same_manner rest.0) in (
        one_more (at old).asking (at middle).asking (at new).asking (record { before = before; after = after; course = caller.served.course; reason = caller.reason }) later
            (caller.served.visit, tt) caller.served.asks,
        rest.1 ∙ first.0,
        rest.2 ∙ first.1,
      )

  -- so a door that was asked up to its end had a worker's shift
  pub shift_of : {door_turns : ℕ} {before after : DoorSeen} {reason : DoorEnd} (old new : S) → door.IsWorked Serves door_turns before after old new reason
      → IsWorked (at old).terms (at old).manner door_turns before after (at old).asking (at new).asking reason
  shift_of {door_turns = door_turns} {before = before} {after = after} {reason = reason} old new worked =
      let visits = (visits_each old new worked.answers worked.served).0 in
      record {
        answers = visits.asked;
        shift = record {
          visits = visits.visits;
          asked = subst (λ (l : List DoorAnswer). IsAsked door_turns before after l reason) (sym visits.same) worked.asked;
        };
        asks = visits.asks;
      }
