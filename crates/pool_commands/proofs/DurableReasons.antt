-- Each status of `durable serve` has its reason.
use Rattle.std.proofs.Common.{◌≡◌, ◌⊎◌, ℕ, ◌<◌, true, false, List, Result, Ok, Err, refl, sym, ap, subst, ◌∙◌, arith, inl, inr}
use Rattle.pool_base.specs.Counts.{Rose}
use Rattle.pool_io.specs.declared.host.HostError.{HostError}
use Rattle.pool_io.specs.declared.host.HostError.TheVariants as host
use Rattle.pool_io.specs.Hosts.{CameBack, HostSeen}
use Rattle.pool_io.specs.Lending.{Lending, with_back}
use Rattle.pool_io.specs.Outside.{CountsFailure, is_failed_gift}
use Rattle.pool_io.specs.Seen.{KeeperSeen}
use Rattle.ledger_disk.specs.Calls.{DiskSeen}
use Rattle.ledger_disk.specs.Disks.{DisksSeen}
use Rattle.pool_history.specs.declared.settings.Rules.{Rules}
use Rattle.pool_network.specs.Worlds.{WorldSeen}
use Rattle.pool_settings.specs.declared.opening.NoSettings.{NoSettings}
use Rattle.pool_settings.specs.declared.settings.Settings.{Settings}
use Rattle.pool_settings.specs.Opened.{OpensSettings}
use Rattle.share_ledger.specs.Books.{BookSeen}
use Rattle.stream_commands.specs.Statuses.{status_of_refusal}
use Rattle.stream_commands.specs.declared.status.Status.{Status}
use Rattle.pool_commands.specs.ServeRow.{HasFailureBy, HasReasonBy, places_by, service_by}
use Rattle.pool_commands.specs.Serving.{ReachedSeen, Served, ServesOnNetwork, Unserved}
use Rattle.pool_commands.specs.ServeWords.{report_text}
use Rattle.door_threads.proofs.Given.{came_back}
use Rattle.pool_commands.proofs.Reasons.{behind, report_printed, served_with, unserved, without}
use Rattle.ledger_resume.specs.declared.cause.NoBook.{NoBook}
use Rattle.ledger_resume.specs.declared.cause.NoBook.TheVariants as cause
use Rattle.ledger_resume.specs.Books.{HasNoBook, IsNotMadeOf}
use Rattle.pool_commands.specs.Given.{IsDiskGiven, with_disk_back}
use Rattle.pool_commands.specs.DurableServing.{DurableServeRow, FinishesOnDisk, GivesBookBack, HasFailedDisk, HasDiskReason, HasWrongDisk, ServesDiskAfterSettings, ServesDiskByNames, ServesNetworkOnDisk, ServesWithDisk}
use Rattle.pool_commands.specs.DurableStatuses.{status_of_no_book}
use Rattle.pool_commands.specs.Surroundings.{Surroundings, world_in}

-- a disk that failed has a count
not_made_fault : {ledger disk : DiskSeen} {records : List (List ℕ)} {rules : Rules} → IsNotMadeOf rules ledger records disk cause.Fault → 0 < disk.faults
not_made_fault (inl unbegun) = omega (arith, unbegun.counts)
not_made_fault (inr (inl none)) = absurd (let never : true ≡ false = none.unfailed in cc)
not_made_fault (inr (inr unleft)) = omega (arith, unleft.counts)

no_book_fault : {rules : Rules} {disk back : DiskSeen} → HasNoBook rules disk back cause.Fault → 0 < back.faults
no_book_fault (inl unopened) = omega (arith, unopened.counts)
no_book_fault (inr none) = not_made_fault none.3

-- the disk of a name that was given and came back
module _ (name : List ℕ) (old given : DisksSeen) (disk : DiskSeen) (out : IsDiskGiven name old given disk) where
  disk_back : (new : DisksSeen) (back : DiskSeen) → new ≡ with_disk_back given back → CameBack old.disks new.disks back
  disk_back new back is =
      came_back old.disks new.disks back
      (ap (λ (d : DisksSeen). d.disks) is ∙ ap (λ (l : Lending DiskSeen). with_back l back) (ap (λ (d : DisksSeen). d.disks) out.lent))

module _ (settings_name ledger_name : List ℕ) (old new : Surroundings) (read : HostSeen) (settings : Settings) (opens : OpensSettings settings_name old.host read (Ok settings)) where
  abbrev Kept : Type 0
  Kept = HasFailedDisk old.disks new.disks

  abbrev Wrong : Type 0
  Wrong = HasWrongDisk settings_name ledger_name old new

  abbrev before : WorldSeen
  before = record { host = read; network = old.network }

  abbrev Fails : Status → Type 0
  Fails answer = HasFailureBy Kept Wrong before (world_in new) answer

  module _ (given : DisksSeen) (disk : DiskSeen) (out : IsDiskGiven ledger_name old.disks given disk) where
    failed_disk : (book ready : BookSeen) → GivesBookBack given new.disks book → Rose ready.keeper.faults book.keeper.faults → Kept
    failed_disk book ready gives rose =
        let same : gives.disk.faults ≡ book.keeper.faults = ap (λ (k : KeeperSeen). k.faults) gives.keeps in
        (gives.disk, disk_back ledger_name old.disks given disk out new.disks gives.disk gives.back, omega (arith, rose, same))

    served : (answer : Status) (ready : BookSeen) (r : ReachedSeen) → ServesOnNetwork (service_by settings) (places_by settings) old.network new.network ready r
        → FinishesOnDisk read new.host given new.disks r answer → Fails answer
    served answer ready (Served ended reason ledger_faults door_faults door_memory) serves finishes =
        subst Fails (sym finishes.1)
        (served_with Kept Wrong before (world_in new) settings ready ended reason ledger_faults door_faults door_memory finishes.0 serves
        (λ rose. failed_disk ended ready finishes.3 rose)
        (report_printed Kept Wrong before (world_in new) read new.host refl refl (report_text reason ended.events) finishes.0 finishes.2))
    served answer ready (Unserved ended error) serves finishes =
        subst Fails (sym finishes.0) (unserved Kept Wrong before (world_in new) settings error serves.1)

    without_book : (why : NoBook) (back : DiskSeen) → HasNoBook settings.rules disk back why ⊎ ((back ≡ disk) × (why ≡ cause.Memory)) → new.disks ≡ with_disk_back given back
        → Fails (status_of_no_book why)
    without_book cause.Fault back (inl none) is = (back, disk_back ledger_name old.disks given disk out new.disks back is, no_book_fault none)
    without_book cause.Fault back (inr other) is = absurd (let never : cause.Fault ≡ cause.Memory = other.1 in cc)
    without_book cause.WrongLedger back (inl none) is = record {
      settings = settings;
      read = read;
      opens = opens;
      back = back;
      found = subst (λ (d : DiskSeen). HasNoBook settings.rules d back cause.WrongLedger) out.opened none;
      disks = disk_back ledger_name old.disks given disk out new.disks back is;
    }
    without_book cause.WrongLedger back (inr other) is = absurd (let never : cause.WrongLedger ≡ cause.Memory = other.1 in cc)
    without_book cause.Memory back none is = tt

    on_disk : (answer : Status) → ServesNetworkOnDisk settings disk (record { host = read; network = old.network; disks = given }) new answer → Fails answer
    on_disk answer (inl by) = served answer by.ready by.reached by.serves by.finishes
    on_disk answer (inr none) = subst Fails (sym none.answered) (without_book none.cause none.back none.none none.disks)

  refused : (error : HostError) → CountsFailure (is_failed_gift {A = Unit {0}} (Err error)) old.disks.faults new.disks.faults
      → HasDiskReason settings_name ledger_name old new (status_of_refusal error)
  refused host.Failed counts = inl (refl, omega (arith, counts))
  refused host.Memory counts = inr tt

  with_settings : (answer : Status) → ServesWithDisk settings ledger_name (record { host = read; network = old.network; disks = old.disks }) new answer
      → HasDiskReason settings_name ledger_name old new answer
  with_settings answer (inl serves) =
      inr (behind Kept Wrong settings_name (world_in old) Kept read settings opens (λ failed. failed) (world_in new) answer (on_disk serves.1 serves.0 serves.2 answer serves.3))
  with_settings answer (inr none) =
      subst (HasDiskReason settings_name ledger_name old new) (sym none.1) (refused none.0 none.2.counts)

has_reason : (settings_name ledger_name : List ℕ) (old new : Surroundings) (answer : Status) (read : HostSeen) (settings : Result Settings NoSettings)
    → OpensSettings settings_name old.host read settings
    → ServesDiskAfterSettings ledger_name settings (record { host = read; network = old.network; disks = old.disks }) new answer
    → HasDiskReason settings_name ledger_name old new answer
has_reason settings_name ledger_name old new answer read (Ok settings) opens after = with_settings settings_name ledger_name old new read settings opens answer after
has_reason settings_name ledger_name old new answer read (Err none) opens after =
    let Kept : Type 0 = HasFailedDisk old.disks new.disks in
    let Wrong : Type 0 = HasWrongDisk settings_name ledger_name old new in
    inr (subst (λ (s : Surroundings). HasReasonBy Kept Wrong settings_name (world_in old) (world_in s) answer) (sym after.0)
    (subst (λ (s : Status). HasReasonBy Kept Wrong settings_name (world_in old) (record { host = read; network = old.network }) s) (sym after.1)
    (without Kept Wrong settings_name (world_in old) read none opens)))

pub row_of : {settings_name ledger_name : List ℕ} {old new : Surroundings} {answer : Status}
    → ServesDiskByNames settings_name ledger_name old new answer → DurableServeRow settings_name ledger_name old new answer
row_of {settings_name = settings_name} {ledger_name = ledger_name} {old = old} {new = new} {answer = answer} serves = record {
  serves = serves;
  complete = has_reason settings_name ledger_name old new answer serves.1 serves.0 serves.2 serves.3;
}
