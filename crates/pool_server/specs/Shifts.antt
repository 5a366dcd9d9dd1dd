-- What a worker did at its door, from its first asking to its last (this project's own).
use Rattle.std.specs.Prelude.{◌≡◌, ℕ, List, [], ◌∷◌, ◌++◌, map}
use Rattle.pool_network.specs.Seen.{DoorSeen, LinkSeen}
use Rattle.pool_history.specs.Calls.{PoolCall}
use Rattle.session_steps.specs.declared.ends.SessionEnd.{SessionEnd}
use Rattle.session_steps.specs.declared.manner.Manner.{Manner}
use Rattle.v1_translate.specs.State.{Terms}
use Rattle.pool_sessions.specs.Courses.{calls_on}
use Rattle.door_threads.specs.declared.working.DoorEnd.{DoorEnd}
use Rattle.door_threads.specs.Asking.{DoorAnswer, IsAsked, Nobody, Somebody}
use Rattle.pool_server.specs.Calling.{PoolPass}
use Rattle.pool_server.specs.Visits.{Asking, AsksByPass, IsVisit, ServesLink, Visit}

-- one answer of a door: nobody came, or somebody, who was then served
pub data Asked : Type 0 where
  Waited : Asked
  Visited : (visit : Visit) → Asked

-- a door as it came and as it went, what it answered, and why it was asked no more
pub record Shift : Type 0 where
  pub before : DoorSeen
  pub after : DoorSeen
  pub answers : List Asked
  pub reason : DoorEnd

-- as the door saw it: the link that it let in, and how it came back
abbrev pub answer_of : Asked → DoorAnswer
answer_of Waited = Nobody
answer_of (Visited visit) = Somebody visit.before visit.after

-- the calls that were made
abbrev pub calls_at : List Asked → List PoolCall
calls_at [] = []
calls_at (Waited ∷ answers) = calls_at answers
calls_at (Visited visit ∷ answers) = calls_on visit.course ++ calls_at answers

-- each who came was served by one session of this worker
abbrev pub AreVisits : Terms → Manner → ℕ → List Asked → Type 0
AreVisits terms manner worker [] = Unit {0}
AreVisits terms manner worker (Waited ∷ answers) = AreVisits terms manner worker answers
AreVisits terms manner worker (Visited visit ∷ answers) =
    IsVisit terms manner worker visit × AreVisits terms manner worker answers

-- a worker's whole shift at its door: each caller had a session of this worker, and the door was
-- asked just for these answers (`IsAsked`), up to the last but for the one that ends it
pub record IsShift (terms : Terms) (manner : Manner) (worker door_turns : ℕ) (shift : Shift) :
    Type 0 where
  pub visits : AreVisits terms manner worker shift.answers
  pub asked :
      IsAsked door_turns shift.before shift.after (map answer_of shift.answers) shift.reason

-- a shift whose calls are those that the pass made
pub record IsWorked (terms : Terms) (manner : Manner) (door_turns : ℕ)
    (before after : DoorSeen) (old new : Asking) (reason : DoorEnd) : Type 0 where
  pub answers : List Asked
  pub shift : IsShift terms manner old.pass.worker door_turns (record {
    before = before;
    after = after;
    answers = answers;
    reason = reason;
  })
  pub asks : AsksByPass old (calls_at answers) new

-- who serves callers: by which rules, how, and by which pass
pub record Serving : Type 0 where
  pub terms : Terms
  pub manner : Manner
  pub asking : Asking

abbrev pub serving_of : Terms → Manner → PoolPass → ℕ → Serving
serving_of terms manner pass faults = record {
  terms = terms;
  manner = manner;
  asking = record { pass = pass; faults = faults };
}

-- one caller was served
pub record ServesCaller (old : Serving) (before after : LinkSeen) (new : Serving) : Type 0 where
  pub reason : SessionEnd
  pub served : ServesLink old.terms old.manner before after old.asking new.asking reason
  pub same_terms : new.terms ≡ old.terms
  pub same_manner : new.manner ≡ old.manner
