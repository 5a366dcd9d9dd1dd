-- That each request of a session of lines was answered, and each share of one of frames, and so of all
-- sessions at a door (this project's own).
use Rattle.std.specs.Prelude.{◌≡◌, ℕ, ◌+◌, Bool, List, [], ◌∷◌, ◌++◌, reverse}
use Rattle.std.specs.List.{AllByRecursion}
use Rattle.serde_json.specs.Data.{Data}
use Rattle.pool_history.specs.declared.events.Role.TheVariants as role
use Rattle.session_steps.specs.declared.manner.Manner.{Manner}
use Rattle.session_steps.specs.States.{Reading}
use Rattle.v1_translate.specs.Laws.{answered_in, how_many, requests_in}
use Rattle.v1_translate.specs.Sessions.{said_after}
use Rattle.v1_translate.specs.State.{Terms}
use Rattle.v1_sessions.specs.Laws.{IsAnswered, all_heard}
use Rattle.v1_sessions.specs.States.{LineState, new_line_state}
use Rattle.v1_sessions.specs.Steps.{Follows, LineStep, calls_of}
use Rattle.pool_sessions.specs.Courses.{Course, Framed, Lined}
use Rattle.pool_server.specs.Shifts.{Asked, Shift, Visited, Waited}
use Rattle.pool_server.specs.Parts.{Service, manner_of}
use Rattle.pool_promises.specs.Shares.{AnswersShares}

-- each call was answered by a reply to its request or by a fault; and whenever the next line was
-- waited for, each id had been answered just as often as it was asked
pub record AnswersLines (worker : ℕ) (terms : Terms) (manner : Manner) (steps : List LineStep) :
    Type 0 where
  pub calls : AllByRecursion IsAnswered (calls_of steps)
  pub ids : (front back : List LineStep) (reached : LineState) → steps ≡ front ++ back
      → Follows worker terms (new_line_state manner) front reached → reached.pool.stage ≡ Reading
      → (test : Data → Bool)
      → how_many test
      (answered_in (said_after terms (reverse (all_heard terms (new_line_state manner) front))))
      ≡ how_many test (requests_in (reverse (all_heard terms (new_line_state manner) front)))

-- a caller was answered, in the language that its first byte tells: each request of one who speaks lines,
-- each share of one who speaks frames
abbrev pub AnswersCaller : ℕ → Terms → Manner → Course → Type 0
AnswersCaller worker terms manner (Lined steps) = AnswersLines worker terms manner steps
AnswersCaller worker terms manner (Framed steps) = AnswersShares worker manner steps

-- with each who came to a door
abbrev pub AnswersCallers : ℕ → Terms → Manner → List Asked → Type 0
AnswersCallers worker terms manner [] = Unit {0}
AnswersCallers worker terms manner (Waited ∷ answers) =
    AnswersCallers worker terms manner answers
AnswersCallers worker terms manner (Visited visit ∷ answers) =
    AnswersCaller worker terms manner visit.course × AnswersCallers worker terms manner answers

-- and at the doors of this worker and the next ones
abbrev pub AnswerAtDoors : Service → ℕ → List Shift → Type 0
AnswerAtDoors service worker [] = Unit {0}
AnswerAtDoors service worker (shift ∷ shifts) =
    AnswersCallers worker service.terms (manner_of service role.Miner) shift.answers
    × AnswerAtDoors service (worker + 1) shifts
