-- That sessions of lines, and callers at doors, are answered (this project's own).
use Rattle.std.specs.Prelude.{◌≡◌, ℕ, true, Some, List, ◌++◌}
use Rattle.pool_history.specs.declared.events.Event.{Event}
use Rattle.pool_history.specs.declared.settings.Rules.{Rules}
use Rattle.pool_history.specs.Calls.{PoolCall}
use Rattle.pool_history.specs.Sessions.{mines, past_of, rules_of}
use Rattle.session_steps.specs.declared.ends.SessionEnd.{SessionEnd}
use Rattle.session_steps.specs.declared.manner.Manner.{Manner}
use Rattle.v1_translate.specs.State.{Terms}
use Rattle.v1_sessions.specs.States.{LineState, new_line_state}
use Rattle.v1_sessions.specs.Steps.{Follows, LineStep, calls_of}
use Rattle.pool_promises.specs.Presence.{MakeHistory}
use Rattle.pool_server.specs.Parts.{Service}
use Rattle.pool_server.specs.Serving.{Hall, HasRun}
use Rattle.pool_promises.specs.Answered.{AnswerAtDoors, AnswersLines}

-- steps of a miner's session, over or not, whose calls stand in a row among its worker's, on a
-- history that had rules at the start
abbrev pub LineSessionsAreAnswered : Type 0
LineSessionsAreAnswered =
    (start history : List Event) (least most worker : ℕ) (earlier later others : List PoolCall)
    (terms : Terms) (manner : Manner) (steps : List LineStep) (last : LineState) (rules : Rules)
    → rules_of (past_of start) ≡ Some rules → mines manner.role ≡ true
    → Follows worker terms (new_line_state manner) steps last
    → MakeHistory start history least most worker (earlier ++ (calls_of steps ++ later)) others
    → AnswersLines worker terms manner steps

-- what serving leaves on a book that began with a Start: HasRun doesn't say that it did
abbrev pub ServedCallersAreAnswered : Type 0
ServedCallersAreAnswered =
    (service : Service) (old new : Hall) (reason : SessionEnd)
    (ledger_faults door_faults door_memory : ℕ) (rules : Rules)
    → rules_of (past_of old.book.events) ≡ Some rules
    → (run : HasRun service old new reason ledger_faults door_faults door_memory)
    → AnswerAtDoors service 1 run.shifts
