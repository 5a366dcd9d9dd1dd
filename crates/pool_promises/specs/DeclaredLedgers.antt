-- What holds of each history that a session leaves which takes declarations (this project's own).
use Rattle.std.specs.Prelude.{◌≡◌, ℕ, true, Some, List}
use Rattle.std.specs.List.{AllByRecursion}
use Rattle.pool_io.specs.Hosts.{HostSeen}
use Rattle.pool_history.specs.declared.events.Event.{Event}
use Rattle.pool_history.specs.declared.settings.Rules.{Rules}
use Rattle.pool_history.specs.Sessions.{past_of, rules_of}
use Rattle.session_steps.specs.declared.ends.SessionEnd.{SessionEnd}
use Rattle.session_steps.specs.declared.manner.Manner.{Manner}
use Rattle.session_steps.specs.States.{Over, State, new_state}
use Rattle.session_steps.specs.Steps.{Follows, SessionStep, calls_in}
use Rattle.pool_commands.specs.SoloRow.{DeclareRow}
use Rattle.pool_sessions.specs.Calling.{StandInTurn, added_in}
use Rattle.stream_commands.specs.declared.status.Status.{Status}
use Rattle.pool_promises.specs.Declared.{AnswersDeclarations, FixesDeclared}
use Rattle.pool_promises.specs.Rows.{LeavesByRow}

-- calls that stand each at what those before it left, on any history
abbrev pub HistoriesFixListedPaths : Type 0
HistoriesFixListedPaths =
    (worker : ℕ) (manner : Manner) (from : List Event) (steps : List SessionStep) (last : State)
    → manner.declares ≡ true → Follows worker (new_state manner) steps last
    → StandInTurn from (calls_in steps)
    → AllByRecursion (FixesDeclared steps) (added_in (calls_in steps))

-- a session that is over, on a history that had rules
abbrev pub DeclarationsAreAnswered : Type 0
DeclarationsAreAnswered =
    (worker : ℕ) (manner : Manner) (from : List Event) (steps : List SessionStep) (last : State)
    (reason : SessionEnd) (rules : Rules)
    → manner.declares ≡ true → rules_of (past_of from) ≡ Some rules
    → Follows worker (new_state manner) steps last → last.stage ≡ Over reason
    → StandInTurn from (calls_in steps) → AnswersDeclarations steps

-- a row of the command `declare`
abbrev pub DeclareLeavesDeclared : Type 0
DeclareLeavesDeclared =
    (settings_name ledger_name : List ℕ) (old new : HostSeen) (status : Status)
    → (row : DeclareRow settings_name ledger_name old new status)
    → LeavesByRow settings_name ledger_name old new status row
