-- What the command `declare SETTINGS LEDGER` leaves, by its row (this project's own).
use Rattle.std.proofs.Common.{inl, inr}
use Rattle.std.specs.Prelude.{◌≡◌, ℕ, true, Result, Ok, Err, List, ◌∷◌, ◌++◌}
use Rattle.std.specs.List.{AllByRecursion}
use Rattle.pool_io.specs.Hosts.{HostSeen}
use Rattle.pool_io.specs.Seen.{KeeperSeen}
use Rattle.pool_history.specs.declared.events.Event.{Event}
use Rattle.pool_history.specs.declared.settings.Rules.{Rules}
use Rattle.pool_settings.specs.declared.opening.NoSettings.{NoSettings}
use Rattle.pool_settings.specs.declared.settings.Settings.{Settings}
use Rattle.session_steps.specs.declared.manner.Manner.{Manner}
use Rattle.session_steps.specs.Steps.{Framed, Met, SessionStep}
use Rattle.pool_commands.specs.SoloRow.{DeclareRow, GoesOnFrom, KeeperRow, SessionRow}
use Rattle.pool_sessions.specs.Solo.{IsServed, Outsides, solo_manner, sole_worker}
use Rattle.pool_sessions.specs.declared.alone.SoloEnd.{SoloEnd}
use Rattle.pool_sessions.specs.declared.alone.SoloEnd.TheVariants as solo
use Rattle.stream_commands.specs.declared.status.Status.{Status}
use Rattle.pool_promises.specs.Answers.{MeetsByRules}
use Rattle.pool_promises.specs.Declared.{AnswersDeclarations, FixesDeclared}

-- Each frame of a declaration that is met among these steps is answered by the rules, over all that
-- the session heard before; each path that a history fixes was declared in them, and each declaration
-- was answered.
pub record LeavesDeclared (manner : Manner) (steps : List SessionStep) (history : List Event) :
    Type 0 where
  pub ruled : (before later : List SessionStep) (met : Met) → steps ≡ before ++ Framed met ∷ later
      → MeetsByRules sole_worker manner before met
  pub fixed : AllByRecursion (FixesDeclared steps) history
  pub answered : AnswersDeclarations steps

-- so it is with the history that a session left, and its steps; or no session began
abbrev pub LeavesByEnd : (rules : Rules) (idle_turns : ℕ) (old new : Outsides) (end : SoloEnd)
    → IsServed rules true idle_turns old new end → Type 0
LeavesByEnd rules idle_turns old new (solo.Unbegun cause) did = Unit {0}
LeavesByEnd rules idle_turns old new (solo.Over reason) did =
    LeavesDeclared (solo_manner rules true idle_turns) did.1.steps did.0

-- where the host gave all that a session needs
abbrev pub LeavesBySession : (settings : Settings) (keeper : KeeperSeen) (old new : HostSeen)
    (status : Status) → SessionRow true settings keeper old new status → Type 0
LeavesBySession settings keeper old new status (inl ran) =
    LeavesByEnd settings.rules settings.limits.idle_turns ran.2.given ran.2.back ran.0
    ran.2.served.did
LeavesBySession settings keeper old new status (inr refused) = Unit {0}

abbrev pub LeavesByKeeper : (settings : Settings) (ledger : List ℕ) (old new : HostSeen)
    (status : Status) → KeeperRow true settings ledger old new status → Type 0
LeavesByKeeper settings ledger old new status (inl kept) =
    LeavesBySession settings kept.0 kept.1 new status kept.3
LeavesByKeeper settings ledger old new status (inr refused) = Unit {0}

abbrev pub LeavesBySettings : (ledger : List ℕ) (answer : Result Settings NoSettings)
    (old new : HostSeen) (status : Status) → GoesOnFrom true ledger answer old new status → Type 0
LeavesBySettings ledger (Ok settings) old new status row =
    LeavesByKeeper settings ledger old new status row
LeavesBySettings ledger (Err no_settings) old new status row = Unit {0}

-- so it is with a row of the command
abbrev pub LeavesByRow : (settings_name ledger_name : List ℕ) (old new : HostSeen)
    (status : Status) → DeclareRow settings_name ledger_name old new status → Type 0
LeavesByRow settings_name ledger_name old new status row =
    LeavesBySettings ledger_name row.0 row.1 new status row.3
