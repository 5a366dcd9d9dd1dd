-- What is served on a disk is a run on it.
use Rattle.std.proofs.Common.{◌≡◌, ◌⊎◌, inl, inr, ℕ, List, [], Some, refl, ap, subst, sym, ◌∙◌, append-nil}
use Rattle.pool_base.specs.Lists.{Begins}
use Rattle.pool_io.specs.Hosts.{HostSeen}
use Rattle.pool_io.specs.Seen.{KeeperSeen, SinkSeen}
use Rattle.pool_network.specs.Networks.{NetworkSeen}
use Rattle.ledger_disk.specs.Calls.{DiskSeen}
use Rattle.ledger_disk.specs.Disks.{DisksSeen, opened_disk}
use Rattle.pool_history.specs.declared.settings.Rules.{Rules}
use Rattle.ledger_records.specs.Keeping.{IsKept}
use Rattle.pool_settings.specs.declared.settings.Settings.{Settings}
use Rattle.session_steps.specs.Steps.{calls_in}
use Rattle.share_ledger.specs.Books.{BookSeen}
use Rattle.share_ledger.specs.Recovery.{KeepsBeginning, begun_with}
use Rattle.pool_sessions.specs.Calling.{added_in}
use Rattle.stream_commands.specs.declared.status.Status.{Status}
use Rattle.pool_commands.specs.ServeRow.{places_by, service_by}
use Rattle.pool_commands.specs.Serving.{ReachedSeen, Served, ServesOnNetwork, Unserved}
use Rattle.ledger_resume.specs.declared.cause.NoBook.{NoBook}
use Rattle.ledger_resume.specs.declared.cause.NoBook.TheVariants as none
use Rattle.ledger_resume.specs.Books.{HasNoBook, IsOpenedLedger, IsReadyBook, LeavesFronts, keeper_on}
use Rattle.ledger_resume.specs.Runs.{DiskRun, HasGoneOn}
use Rattle.pool_commands.specs.DurableAuditing.{AuditsDisk}
use Rattle.pool_commands.specs.DurableRuns.{OthersStand, ServingsAreRuns, SessionsAreRuns, StandsOn, book_left}
use Rattle.pool_commands.specs.DurableServing.{FinishesOnDisk, GivesBookBack}

went_on : (run : DiskRun) (disk : DiskSeen) (ready : BookSeen) (keeper : KeeperSeen) → disk ≡ opened_disk (Some run.found) → IsReadyBook run.rules disk ready
    → Begins ready.events run.history → IsKept run.history → KeepsBeginning ready.keeper keeper → keeper_on run.disk ≡ keeper → LeavesFronts run.disk run.history → HasGoneOn run
went_on run disk ready keeper is is_ready begins kept begun keeps leaves = record {
  ready = ready;
  is_ready = subst (λ (d : DiskSeen). IsReadyBook run.rules d ready) is is_ready;
  begins = begins;
  is_kept = kept;
  begun = ap (λ (k : KeeperSeen). begun_with k) keeps ∙ begun;
  leaves = leaves;
}

pub sessions : SessionsAreRuns
sessions rules idle_turns old new reason found count left is served =
    let session = served.serves.did in
    went_on (record { rules = rules; found = found; disk = new.disk; history = served.history; count = count; left = left }) old.disk served.ready (keeper_on new.disk) is served.is_ready
    (added_in (calls_in session.steps), sym session.begins) session.kept session.begun refl served.recovers

by_reached : (settings : Settings) (disk : DiskSeen) (found : List ℕ) (count : ℕ) (left : List ℕ) (ready : BookSeen) (before after : NetworkSeen) (old new : HostSeen) (had has : DisksSeen) (status : Status)
    → disk ≡ opened_disk (Some found) → IsReadyBook settings.rules disk ready → (reached : ReachedSeen) → ServesOnNetwork (service_by settings) (places_by settings) before after ready reached
    → FinishesOnDisk old new had has reached status
    → (back : GivesBookBack had has (book_left reached))
    × HasGoneOn (record { rules = settings.rules; found = found; disk = back.disk; history = (book_left reached).events; count = count; left = left })
by_reached settings disk found count left ready before after old new had has status is is_ready (Served ended reason ledger_faults door_faults door_memory) serves finishes =
    let back = finishes.3 in
    let ran = serves.ran in (
      back,
      went_on (record { rules = settings.rules; found = found; disk = back.disk; history = ended.events; count = count; left = left }) disk ready ended.keeper is is_ready ran.begins
          ran.kept ran.begun back.keeps back.recovers,
    )
by_reached settings disk found count left ready before after old new had has status is is_ready (Unserved ended error) serves finishes =
    let back = finishes.2 in
    let same = serves.0 in (
      back,
      went_on (record { rules = settings.rules; found = found; disk = back.disk; history = ended.events; count = count; left = left }) disk ready ended.keeper is is_ready
          ([], append-nil ready.events ∙ sym (ap (λ (b : BookSeen). b.events) same)) (subst (λ (b : BookSeen). IsKept b.events) (sym same) is_ready.3.is_kept)
          (ap (λ (b : BookSeen). begun_with b.keeper) same) back.keeps back.recovers,
    )

pub servings : ServingsAreRuns
servings settings disk old new status found count left is served =
    by_reached settings disk found count left served.ready old.network new.network old.host new.host old.disks new.disks status is served.is_ready served.reached served.serves served.finishes

stands_on : (rules : Rules) (disk back : DiskSeen) (found : List ℕ) (cause : NoBook) → disk ≡ opened_disk (Some found) → HasNoBook rules disk back cause → StandsOn rules found back
stands_on rules disk back found cause is none = λ history count left.
    inl (cause, subst (λ (d : DiskSeen). HasNoBook rules d back cause) is none)

untouched : (rules : Rules) (disk : DiskSeen) (found : List ℕ) → disk ≡ opened_disk (Some found) → StandsOn rules found disk
untouched rules disk found is = λ history count left. inr (inr is)

unserved : (settings : Settings) (disk back : DiskSeen) (found : List ℕ) (cause : NoBook) → disk ≡ opened_disk (Some found)
    → HasNoBook settings.rules disk back cause ⊎ ((back ≡ disk) × (cause ≡ none.Memory)) → StandsOn settings.rules found back
unserved settings disk back found cause is (inl none) = stands_on settings.rules disk back found cause is none
unserved settings disk back found cause is (inr same) = untouched settings.rules back found (same.0 ∙ is)

opened_at_most : (rules : Rules) (disk back : DiskSeen) (old new : SinkSeen) (status : Status) (found : List ℕ) → disk ≡ opened_disk (Some found) → AuditsDisk disk back old new status
    → StandsOn rules found back
opened_at_most rules disk back old new status found is (inl audits) = λ history count left.
    inr (inl (audits.0, subst (λ (d : DiskSeen). IsOpenedLedger d back audits.0) is audits.1))
opened_at_most rules disk back old new status found is (inr stands) = stands_on rules disk back found stands.0 is (inl stands.2)

pub others : OthersStand
others = record {
  unready = λ rules idle_turns old new cause found is serves. stands_on rules old.disk new.disk found cause is serves.2;
  unservable = λ settings disk old new status found is stands. unserved settings disk stands.back found stands.cause is stands.none;
  audited = opened_at_most;
  unstreamed = λ rules disk old new error found is lacks. (lacks.disks, untouched rules disk found is);
  unprinted = λ rules disk old new error found is lacks. (lacks.disks, untouched rules disk found is);
}
