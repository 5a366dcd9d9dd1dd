-- Each status of `serve` has its reason.
use Rattle.std.proofs.Common.{◌≡◌, ℕ, ◌<◌, List, Option, None, Some, Result, Ok, Err, refl, sym, ap, subst, ◌∙◌, arith, inl, inr}
use Rattle.std.proofs.lemmas.Bool.{cond_both}
use Rattle.std.specs.Prelude.{◌==◌, if◌then◌else◌}
use Rattle.pool_base.specs.Counts.{Rose}
use Rattle.pool_io.specs.declared.host.HostError.{HostError}
use Rattle.pool_io.specs.declared.host.HostError.TheVariants as host
use Rattle.pool_io.specs.declared.turn.Turn.{Turn}
use Rattle.pool_io.specs.Hosts.{CameBack, HostSeen, IsKeeperGiven, StreamsSeen}
use Rattle.pool_io.specs.Lending.{Lending, with_back}
use Rattle.pool_io.specs.Openings.{Openings}
use Rattle.pool_io.specs.Outside.{CountsFailure, is_failed_gift}
use Rattle.pool_io.specs.Seen.{KeeperSeen}
use Rattle.pool_io.specs.Steps.{bytes_in, steps_of}
use Rattle.pool_history.specs.declared.refusals.BookError.{BookError}
use Rattle.pool_history.specs.declared.refusals.BookError.TheVariants as fault
use Rattle.pool_history.specs.Calls.{blames_keeper}
use Rattle.session_steps.specs.declared.ends.SessionEnd.{SessionEnd}
use Rattle.pool_settings.specs.declared.settings.Settings.{Settings}
use Rattle.pool_settings.specs.Reading.{AreSettings}
use Rattle.stream_commands.specs.Statuses.{status_of_refusal}
use Rattle.stream_commands.specs.declared.status.Status.{Status}
use Rattle.stream_commands.specs.declared.status.Status.TheVariants as status
use Rattle.pool_settings.specs.Opened.{AnswersBytes, AnswersFile, OpensSettings, ReadsSettings, status_of_no_settings}
use Rattle.pool_settings.specs.declared.opening.NoSettings.{NoSettings}
use Rattle.pool_settings.specs.declared.opening.NoSettings.TheVariants as no_settings
use Rattle.share_ledger.specs.Books.{BookSeen}
use Rattle.stream_commands.specs.Reading.{IsOutside, is_read_fault}
use Rattle.stream_commands.specs.declared.reading.Unread.{Unread}
use Rattle.stream_commands.specs.declared.reading.Unread.TheVariants as unread
use Rattle.pool_commands.specs.ServeRow.{BringsSettings, FinishesServing, GivesKeeperBack, HasFailedKeeper, HasFailureBy, HasReason, HasReasonBy, ServeRow, ServesAfterSettings, ServesByNames, ServesOnBook, ServesWithKeeper, places_by, service_by}
use Rattle.pool_network.specs.Worlds.{WorldSeen}
use Rattle.stream_commands.specs.Printing.{HasNoOutput, PrintsText}
use Rattle.door_threads.specs.Places.{IsUnserved}
use Rattle.pool_commands.specs.Serving.{ReachedSeen, Served, ServesOnNetwork, Unserved}
use Rattle.pool_commands.specs.ServeStatuses.{status_by_faults, status_of_served, status_of_start}
use Rattle.pool_commands.specs.ServeWords.{report_text}
use Rattle.door_threads.proofs.Failed.{some_if}
use Rattle.door_threads.proofs.Given.{came_back}
use Rattle.door_threads.proofs.Printed.{printed_or, refused}

-- what holds at each of its causes holds at the status of a serving
module _ (P : Status → Type 0) (ledger_faults door_faults door_memory : ℕ) (memory : P status.Memory) (kept : 0 < ledger_faults → P status.KeeperFault)
    (opened : 0 < door_faults → P status.HostFault) where
  by_counts : (printed : Status) → P printed → P (if door_memory == 0 then status_by_faults ledger_faults door_faults printed else status.Memory)
  by_counts printed prints =
      cond_both (door_memory == 0) (status_by_faults ledger_faults door_faults printed) status.Memory P
      (λ none. cond_both (ledger_faults == 0) (if door_faults == 0 then printed else status.HostFault) status.KeeperFault P
      (λ unfailed. cond_both (door_faults == 0) printed status.HostFault P (λ closed. prints) (λ some. opened (some_if door_faults some)))
      (λ some. kept (some_if ledger_faults some))) (λ some. memory)

  pub by_printed : (printed : Status) → P printed → P (status_of_served ledger_faults door_faults door_memory printed)
  by_printed status.Memory prints = memory
  by_printed status.Done prints = by_counts status.Done prints
  by_printed status.Usage prints = by_counts status.Usage prints
  by_printed status.Refused prints = by_counts status.Refused prints
  by_printed status.ReadFault prints = by_counts status.ReadFault prints
  by_printed status.WriteFault prints = by_counts status.WriteFault prints
  by_printed status.KeeperFault prints = by_counts status.KeeperFault prints
  by_printed status.HostFault prints = by_counts status.HostFault prints
  by_printed status.BadSettings prints = by_counts status.BadSettings prints
  by_printed status.Limit prints = by_counts status.Limit prints
  by_printed status.WrongLedger prints = by_counts status.WrongLedger prints

-- from the moment when there were settings, whatever a failure of what keeps the records is
module _ (Kept Wrong : Type 0) (old new : WorldSeen) where
  abbrev Fails : Status → Type 0
  Fails = HasFailureBy Kept Wrong old new

  host_refused : (error : HostError) → CountsFailure (is_failed_gift {A = Unit {0}} (Err error)) old.host.streams.faults new.host.streams.faults
      → Fails (status_of_refusal error)
  host_refused = refused Fails old.host.streams.faults new.host.streams.faults tt (λ rose. inl rose)

  network_refused : (error : HostError) → CountsFailure (is_failed_gift {A = Unit {0}} (Err error)) old.network.faults new.network.faults
      → Fails (status_of_refusal error)
  network_refused = refused Fails old.network.faults new.network.faults tt (λ rose. inr (inl rose))

  pub unserved : (settings : Settings) (error : HostError) → IsUnserved (places_by settings) old.network new.network error
      → HasFailureBy Kept Wrong old new (status_of_refusal error)
  unserved settings error (inl (inl none)) = network_refused error none.counts
  unserved settings error (inl (inr none)) = network_refused error none.counts
  unserved settings error (inr none) = subst (λ e. HasFailureBy Kept Wrong old new (status_of_refusal e)) (sym none.error_is) tt

  -- the report was printed where the host's streams stood as before
  pub report_printed : (given middle : HostSeen) → given.streams ≡ old.host.streams → new.host.streams ≡ middle.streams → (text : List ℕ) (printed : Status)
      → PrintsText text status.Done given middle printed → Fails printed
  report_printed = printed_or Fails old.host new.host tt tt (λ failed. failed) (λ rose. inl rose)

  -- all were served, and the report was printed, or not
  pub served_with : (settings : Settings) (begun ended : BookSeen) (reason : SessionEnd) (ledger_faults door_faults door_memory : ℕ) (printed : Status)
      → ServesOnNetwork (service_by settings) (places_by settings) old.network new.network begun (Served ended reason ledger_faults door_faults door_memory)
      → (Rose begun.keeper.faults ended.keeper.faults → Kept) → HasFailureBy Kept Wrong old new printed
      → HasFailureBy Kept Wrong old new (status_of_served ledger_faults door_faults door_memory printed)
  served_with settings begun ended reason ledger_faults door_faults door_memory printed serves kept prints =
      by_printed (HasFailureBy Kept Wrong old new) ledger_faults door_faults door_memory tt (λ some. kept (serves.keeper_failed some))
      (λ some. inr (inr (record {
        doors = serves.doors;
        doors_back = serves.doors_back;
        opened = serves.gives.opened;
        lists = serves.gives.lists;
        failed = serves.doors_failed some;
      }))) printed prints

-- over a keeper that a host gave
module _ (old new : WorldSeen) where
  abbrev HasFailed : Status → Type 0
  HasFailed answer = HasFailureBy (HasFailedKeeper old.host new.host) ⊥ old new answer

  module _ (ledger : List ℕ) (given : HostSeen) (keeper : KeeperSeen) (out : IsKeeperGiven ledger old.host given keeper) where
    kept : (middle : HostSeen) (back : KeeperSeen) → middle.openings.keepers ≡ given.openings.keepers → GivesKeeperBack middle new.host back
        → 0 < back.faults → HasFailedKeeper old.host new.host
    kept middle back same gives some = (
      back,
      came_back old.host.openings.keepers new.host.openings.keepers back
          (ap (λ (o : Openings). o.keepers) gives.openings
          ∙ ap (λ (l : Lending KeeperSeen). with_back l back) (same ∙ ap (λ (o : Openings). o.keepers) out.openings)),
      some,
    )

    unstarted : (cause : BookError) (back : KeeperSeen) → CountsFailure (blames_keeper cause) keeper.faults back.faults
        → GivesKeeperBack given new.host back → HasFailed (status_of_start cause)
    unstarted fault.KeeperFault back counts gives = kept given back refl gives (omega (arith, counts, out.unfailed))
    unstarted fault.Memory back counts gives = tt

    no_output : (middle : HostSeen) (error : HostError) → HasNoOutput given middle error → middle.openings.keepers ≡ given.openings.keepers
    no_output middle host.Failed none = ap (λ (o : Openings). o.keepers) none.openings
    no_output middle host.Memory none = ap (λ (o : Openings). o.keepers) none.openings

    still_out : (text : List ℕ) (middle : HostSeen) (printed : Status) → PrintsText text status.Done given middle printed
        → middle.openings.keepers ≡ given.openings.keepers
    still_out text middle printed (inl prints) = ap (λ (o : Openings). o.keepers) prints.openings
    still_out text middle printed (inr none) = no_output middle none.0 none.2

    served_by : (settings : Settings) (answer : Status) (begun : BookSeen) (r : ReachedSeen)
        → ServesOnNetwork (service_by settings) (places_by settings) old.network new.network begun r
        → FinishesServing given new.host r answer → HasFailed answer
    served_by settings answer begun (Served ended reason ledger_faults door_faults door_memory) serves finishes =
        let printed = finishes.0 in
        let reported = finishes.2 in
        let text = report_text reason ended.events in
        subst HasFailed (sym finishes.1)
        (served_with (HasFailedKeeper old.host new.host) ⊥ old new settings begun ended reason ledger_faults door_faults door_memory printed serves
        (λ (rose : Rose begun.keeper.faults ended.keeper.faults). kept reported.middle ended.keeper (still_out text reported.middle printed reported.prints) reported.back (omega (arith, rose)))
        (report_printed (HasFailedKeeper old.host new.host) ⊥ old new given reported.middle out.streams reported.back.streams text printed reported.prints))
    served_by settings answer begun (Unserved ended error) serves finishes =
        subst HasFailed (sym finishes.0) (unserved (HasFailedKeeper old.host new.host) ⊥ old new settings error serves.1)

    on_book : (settings : Settings) (answer : Status)
        → ServesOnBook settings keeper (record { host = given; network = old.network }) new answer → HasFailed answer
    on_book settings answer (inl served) = served_by settings answer served.begun served.reached served.serves served.finishes
    on_book settings answer (inr none) =
        subst HasFailed (sym none.answered) (unstarted none.cause none.keeper_back none.counts none.back)

  with_keeper : (settings : Settings) (ledger : List ℕ) (answer : Status) → ServesWithKeeper settings ledger old new answer
      → HasFailed answer
  with_keeper settings ledger answer (inl serves) = on_book ledger serves.1 serves.0 serves.2 settings answer serves.3
  with_keeper settings ledger answer (inr none) =
      subst HasFailed (sym none.1) (host_refused (HasFailedKeeper old.host new.host) ⊥ old new none.0 none.2.counts)

-- a file that brings settings has no other answer than these, but for a fault or lack of memory
not_outside : (none : NoSettings) → (none ≡ no_settings.ReadFault → ⊥) → (none ≡ no_settings.Memory → ⊥) → (read : Result (List ℕ) Unread) → IsOutside read
    → AnswersFile read (Err none) → ⊥
not_outside none read_well fits (Ok bytes) outside answers = outside
not_outside none read_well fits (Err unread.TooLong) outside answers = outside
not_outside none read_well fits (Err unread.IdleOut) outside answers = outside
not_outside none read_well fits (Err unread.ReadFault) outside answers = read_well (let same : none ≡ no_settings.ReadFault = cc in same)
not_outside none read_well fits (Err unread.Memory) outside answers = fits (let same : none ≡ no_settings.Memory = cc in same)

read_failed : (read : Result (List ℕ) Unread) (count : ℕ) → AnswersFile read (Err no_settings.ReadFault) → CountsFailure (is_read_fault read) 0 count → 0 < count
read_failed (Ok bytes) count answers counts = absurd answers
read_failed (Err unread.TooLong) count answers counts = cc
read_failed (Err unread.IdleOut) count answers counts = cc
read_failed (Err unread.ReadFault) count answers counts = omega (arith, counts)
read_failed (Err unread.Memory) count answers counts = cc

module _ (Kept Wrong : Type 0) (name : List ℕ) (old : WorldSeen) where
  no_settings_file : (read : HostSeen) (none : NoSettings) → ReadsSettings name old.host read (Err none)
      → (none ≡ no_settings.ReadFault → ⊥) → (none ≡ no_settings.Memory → ⊥)
      → ((bytes : List ℕ) (settings : Settings) → AreSettings bytes settings → AnswersBytes bytes (Err none) → ⊥)
      → BringsSettings (old.host.openings.brings name) → ⊥
  no_settings_file read none reads read_well fits refuted brings = by (old.host.openings.brings name) refl brings where
    by : (o : Option (List Turn)) → old.host.openings.brings name ≡ o → BringsSettings o → ⊥
    by None is b = b
    by (Some turns) is b = elim ((reads.file.decided turns is).whole b.1) [
      | inl ok ↦ refuted (bytes_in (steps_of turns)) b.0 b.2 (subst (λ r. AnswersFile r (Err none)) ok reads.answers)
      | inr outside ↦ not_outside none read_well fits reads.read outside reads.answers
    ]

  -- no settings were found
  pub without : (read : HostSeen) (none : NoSettings) → OpensSettings name old.host read (Err none)
      → HasReasonBy Kept Wrong name old (record { host = read; network = old.network }) (status_of_no_settings none)
  without read (no_settings.Host host.Failed) opens = inl (omega (arith, opens.counts))
  without read (no_settings.Host host.Memory) opens = tt
  without read no_settings.Bad opens =
      no_settings_file read no_settings.Bad opens (λ is. cc) (λ is. cc) (λ bytes settings are answers. answers settings are)
  without read no_settings.IdleOut opens = no_settings_file read no_settings.IdleOut opens (λ is. cc) (λ is. cc) (λ bytes settings are answers. answers)
  without read no_settings.ReadFault opens =
      (opens.file.source, opens.file.back, read_failed opens.read opens.file.source.faults opens.answers opens.file.counts)
  without read no_settings.Memory opens = tt

  -- with settings, what failed behind their reading is what failed
  pub behind : (Before : Type 0) (read : HostSeen) (settings : Settings) → ReadsSettings name old.host read (Ok settings) → (Before → Kept) → (new : WorldSeen)
      (answer : Status) → HasFailureBy Before Wrong (record { host = read; network = old.network }) new answer → HasReasonBy Kept Wrong name old new answer
  behind Before read settings reads kept new status.Done failed = tt
  behind Before read settings reads kept new status.Memory failed = tt
  behind Before read settings reads kept new status.WriteFault failed =
      (failed.0, subst (λ sinks. CameBack sinks new.host.streams.sinks failed.0) (ap (λ (s : StreamsSeen). s.sinks) reads.file.streams) failed.1, failed.2)
  behind Before read settings reads kept new status.KeeperFault failed = kept failed
  behind Before read settings reads kept new status.HostFault failed = elim failed [
    | inl rose ↦ inl (subst (λ n. Rose n new.host.streams.faults) (ap (λ (s : StreamsSeen). s.faults) reads.file.streams) rose)
    | inr other ↦ inr other
  ]
  behind Before read settings reads kept new status.WrongLedger failed = failed
  behind Before read settings reads kept new status.Usage failed = absurd failed
  behind Before read settings reads kept new status.Refused failed = absurd failed
  behind Before read settings reads kept new status.ReadFault failed = absurd failed
  behind Before read settings reads kept new status.BadSettings failed = absurd failed
  behind Before read settings reads kept new status.Limit failed = absurd failed

has_reason : (name : List ℕ) (old : WorldSeen) (ledger : List ℕ) (new : WorldSeen) (answer : Status) (read : HostSeen) (settings : Result Settings NoSettings)
    → OpensSettings name old.host read settings
    → ServesAfterSettings ledger settings (record { host = read; network = old.network }) new answer
    → HasReason name old new answer
has_reason name old ledger new answer read (Ok settings) opens after =
    behind (HasFailedKeeper old.host new.host) ⊥ name old (HasFailedKeeper read new.host) read settings opens
    (λ failed. (failed.0, subst (λ keepers. CameBack keepers new.host.openings.keepers failed.0) (ap (λ (o : Openings). o.keepers) opens.file.openings) failed.1, failed.2))
    new answer (with_keeper (record { host = read; network = old.network }) new settings ledger answer after)
has_reason name old ledger new answer read (Err none) opens after =
    subst (λ (w : WorldSeen). HasReason name old w answer) (sym after.0)
    (subst (λ (s : Status). HasReason name old (record { host = read; network = old.network }) s) (sym after.1)
    (without (HasFailedKeeper old.host read) ⊥ name old read none opens))

pub row_of : {settings_name ledger_name : List ℕ} {old new : WorldSeen} {answer : Status}
    → ServesByNames settings_name ledger_name old new answer → ServeRow settings_name ledger_name old new answer
row_of {settings_name = settings_name} {ledger_name = ledger_name} {old = old} {new = new} {answer = answer} serves = record {
  serves = serves;
  complete = has_reason settings_name old ledger_name new answer serves.1 serves.0 serves.2 serves.3;
}
