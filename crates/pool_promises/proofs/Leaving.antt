-- What the command `declare` leaves.
use Rattle.std.proofs.Common.{ℕ, true, Result, Ok, Err, List, [], ◌∷◌, inl, inr, refl, sym, subst}
use Rattle.std.specs.List.{AllByRecursion}
use Rattle.pool_io.specs.Hosts.{HostSeen}
use Rattle.pool_io.specs.Seen.{KeeperSeen}
use Rattle.pool_history.specs.declared.events.Event.{Event}
use Rattle.pool_history.specs.declared.events.Event.TheVariants as event
use Rattle.pool_history.specs.declared.settings.Rules.{Rules}
use Rattle.pool_settings.specs.declared.opening.NoSettings.{NoSettings}
use Rattle.pool_settings.specs.declared.settings.Settings.{Settings}
use Rattle.session_steps.specs.States.{new_state}
use Rattle.session_steps.specs.Steps.{Follows}
use Rattle.pool_commands.specs.SoloRow.{GoesOnFrom, KeeperRow, SessionRow}
use Rattle.pool_sessions.specs.Solo.{IsServed, Outsides, solo_manner, sole_worker}
use Rattle.pool_sessions.specs.declared.alone.SoloEnd.{SoloEnd}
use Rattle.pool_sessions.specs.declared.alone.SoloEnd.TheVariants as solo
use Rattle.stream_commands.specs.declared.status.Status.{Status}
use Rattle.pool_promises.specs.Declaring.{DeclarationsAreByRules}
use Rattle.pool_promises.specs.Declared.{FixesDeclared}
use Rattle.pool_promises.specs.DeclaredLedgers.{DeclarationsAreAnswered, DeclareLeavesDeclared, HistoriesFixListedPaths}
use Rattle.pool_promises.specs.Rows.{LeavesByEnd, LeavesByKeeper, LeavesBySession, LeavesBySettings}

module _ (rule : DeclarationsAreByRules) (fix : HistoriesFixListedPaths) (answer : DeclarationsAreAnswered) where
  by_end : (rules : Rules) (idle_turns : ℕ) (old new : Outsides) (end : SoloEnd)
      (did : IsServed rules true idle_turns old new end) → LeavesByEnd rules idle_turns old new end did
  by_end rules idle_turns old new (solo.Unbegun cause) did = tt
  by_end rules idle_turns old new (solo.Over reason) did =
      let manner = solo_manner rules true idle_turns in
      let start : List Event = event.Start rules ∷ [] in
      let session = did.1 in
      record {
        ruled = λ before later met parts. rule sole_worker manner before later met session.last refl
            (subst (λ steps. Follows sole_worker (new_state manner) steps session.last) parts
            session.follows);
        fixed = subst (AllByRecursion (FixesDeclared session.steps)) (sym session.begins)
            (tt, fix sole_worker manner start session.steps session.last refl session.follows session.turns);
        answered = answer sole_worker manner start session.steps session.last reason rules refl refl
            session.follows session.over session.turns;
      }

  by_session : (settings : Settings) (keeper : KeeperSeen) (old new : HostSeen) (status : Status)
      (row : SessionRow true settings keeper old new status)
      → LeavesBySession settings keeper old new status row
  by_session settings keeper old new status (inl ran) =
      by_end settings.rules settings.limits.idle_turns ran.2.given ran.2.back ran.0 ran.2.served.did
  by_session settings keeper old new status (inr refused) = tt

  by_keeper : (settings : Settings) (ledger : List ℕ) (old new : HostSeen) (status : Status)
      (row : KeeperRow true settings ledger old new status)
      → LeavesByKeeper settings ledger old new status row
  by_keeper settings ledger old new status (inl kept) =
      by_session settings kept.0 kept.1 new status kept.3
  by_keeper settings ledger old new status (inr refused) = tt

  by_settings : (ledger : List ℕ) (found : Result Settings NoSettings) (old new : HostSeen)
      (status : Status) (row : GoesOnFrom true ledger found old new status)
      → LeavesBySettings ledger found old new status row
  by_settings ledger (Ok settings) old new status row = by_keeper settings ledger old new status row
  by_settings ledger (Err no_settings) old new status row = tt

  pub by_row : DeclareLeavesDeclared
  by_row settings_name ledger_name old new status row =
      by_settings ledger_name row.0 row.1 new status row.3
