-- From tasks that were done at a desk to what is left of a book, its doors and a feed's link.
use Rattle.std.proofs.Common.{◌≡◌, ℕ, ◌+◌, Option, None, Some, is_some, List, length, map, true≢false, refl, sym, ap, ◌∙◌, subst}
use Rattle.std.specs.Global.{Vec}
use Rattle.pool_base.specs.Calls.{Parted}
use Rattle.desk.specs.Machines.{Telling}
use Rattle.desk.specs.Passes.{HasJustOpened, IsSamePass, Opening, fresh_passes}
use Rattle.desk.specs.Views.{workers_from}
use Rattle.desk.specs.Parts.{HasTended}
use Rattle.pool_history.specs.declared.events.Event.{Event}
use Rattle.pool_history.specs.Answering.{Answer}
use Rattle.pool_history.specs.Calls.{GoodPoolCalls, PoolCall, wants_memory}
use Rattle.ledger_records.specs.Keeping.{IsKept}
use Rattle.share_ledger.specs.Books.{BookSeen, KeepsInstead, KeepsLedger, health_of}
use Rattle.pool_server.specs.Calling.{PoolPass}
use Rattle.pool_server.specs.Visits.{Asking}
use Rattle.door_threads.specs.declared.listing.Tended.{Tended}
use Rattle.door_threads.specs.declared.parts.ThreadPart.{ThreadPart}
use Rattle.door_threads.specs.declared.parts.ThreadTask.{ThreadTask}
use Rattle.door_threads.specs.declared.parts.ThreadTask.TheVariants as task
use Rattle.pool_server.specs.declared.doors.Served.{Served}
use Rattle.pool_server.specs.declared.doors.Served.TheVariants as served
use Rattle.pool_server.specs.Counting.{capped, failed_in, starved_in}
use Rattle.pool_server.specs.Ending.{HasServed, IsFinished}
use Rattle.door_threads.specs.Listing.{HasDoneTasks, IsUnlisted, parts_of}
use Rattle.pool_server.specs.Parts.{DoesTask, IsAttended, Seeing, asking_of}
use Rattle.pool_server.specs.Serving.{HasRun}
use Rattle.pool_server.proofs.Rows.{AllDone, all_done, done_long, whole}

-- a keeper that tells where it told tells this ledger where it told
keeps-telling : (before after : Option (List (List ℕ))) (history : List Event) → is_some after ≡ is_some before → KeepsLedger after history → KeepsInstead before after history
keeps-telling None None history same ledger = refl
keeps-telling (Some records) (Some now) history same ledger = ap Some ledger
keeps-telling None (Some now) history same ledger = absurd (true≢false same)
keeps-telling (Some records) None history same ledger = absurd (true≢false (sym same))

-- the pass of a part stays its desk's, of the same worker
does_same : {D L : Type 0} (seeing : Seeing D L) (t t' : ThreadTask D L) (old new : Asking) → DoesTask seeing t old t' new → IsSamePass old.pass new.pass
does_same seeing (task.Link link ended) (task.Link link' ended') old new h = h.2.asks.goes_on.same
does_same seeing (task.Door door ended) (task.Door door' ended') old new h = h.2.asks.goes_on.same
does_same seeing (task.Link link ended) (task.Door door' ended') old new h = absurd h
does_same seeing (task.Door door ended) (task.Link link' ended') old new h = absurd h

pub attended_same : {D L : Type 0} (seeing : Seeing D L) (old new : ThreadPart D L × PoolPass) → IsAttended seeing old new → IsSamePass old.1 new.1
attended_same seeing old new h = does_same seeing old.0.task new.0.task (asking_of old.0 old.1) (asking_of new.0 new.1) h

-- a desk that was just opened, by what it shows
pub opened_so : {machine : BookSeen} {count : ℕ} {desk : Opening BookSeen} {passes : List PoolPass} → HasJustOpened (λ (seen : BookSeen). seen.events) machine count desk passes
    → HasJustOpened (λ (seen : BookSeen). seen.events) desk.start desk.count desk passes
opened_so {count = count} {desk = desk} opened = record {
  start = refl;
  dealt = refl;
  passes_are = opened.passes_are ∙ ap (λ (m : BookSeen). fresh_passes desk.table m.events (workers_from 0 count)) (sym opened.start)
      ∙ ap (λ n. fresh_passes desk.table desk.start.events (workers_from 0 n)) (sym opened.dealt);
  tables = opened.tables;
}

module _ {D L : Type 0} {seeing : Seeing D L} {desk : Opening BookSeen} {closed : BookSeen} {listed parts : List (ThreadPart D L)} (feed : L) (doors : List D)
    (are : listed ≡ parts_of feed doors) (tended : HasTended Answer wants_memory (λ (seen : BookSeen). seen.events) health_of (IsAttended seeing) desk listed closed parts) where
  all_of : HasTended Answer wants_memory (λ (seen : BookSeen). seen.events) health_of (IsAttended seeing) desk (parts_of feed doors) closed parts
  all_of = subst (λ (l : List (ThreadPart D L)). HasTended Answer wants_memory (λ (seen : BookSeen). seen.events) health_of (IsAttended seeing) desk l closed parts) are tended

  done : AllDone seeing desk.table desk.start.events feed doors parts all_of.passes
  done = all_done seeing desk.table desk.start.events feed doors parts all_of.passes all_of.tended

  -- all tasks are done
  pub whole_parts : HasDoneTasks parts
  whole_parts = whole seeing desk.table desk.start.events done

  -- and there are as many as were listed
  pub long_parts : length parts ≡ length doors + 1
  long_parts = done_long seeing desk.table desk.start.events done

  has_run : (back : Tended D L) → IsUnlisted parts back → IsKept closed.events → KeepsLedger closed.keeper.records closed.events
      → HasRun seeing.service (record { book = desk.start; doors = map seeing.door doors; feed = seeing.link feed })
      (record { book = closed; doors = map seeing.door back.doors.items; feed = seeing.link back.link })
      back.link_end back.faults back.door_faults back.door_memory
  has_run back unlisted kept ledger =
      let all = done in
      let at = all_of.closed in
      let restored = unlisted all.rows all.row all.parts_are in
      record {
        course = all.course;
        shifts = all.shifts;
        fed = rw (restored.link_is, restored.end_is) all.fed;
        worked = all.shifts_are;
        doors_before = all.before;
        doors_after = all.after ∙ ap (λ (l : List D). map seeing.door l) (sym restored.doors_are);
        begins = at.begins;
        kept = kept;
        ledger = keeps-telling desk.start.keeper.records closed.keeper.records closed.events (ap (λ (t : Telling). t.records) at.later.tells) ledger;
        begun = ap (λ (t : Telling). t.begun) at.later.tells;
        good = subst (λ (l : List PoolCall). GoodPoolCalls closed.events l) all.calls at.good;
        parted = subst (λ (l : List PoolCall). Parted desk.start.events closed.events desk.start.keeper.faults closed.keeper.faults l) all.calls at.parted;
        rise = all.rise;
        ledger_faults_are = restored.faults_are ∙ all.faults;
        door_faults_are = restored.door_faults_are ∙ ap (λ l. capped (failed_in l)) (sym all.reasons);
        door_memory_is = restored.door_memory_is ∙ ap (λ l. capped (starved_in l)) (sym all.reasons);
      }

  -- so the whole is as was said
  pub has_served : {K : Type 0} (back : Tended D L) → IsUnlisted parts back → (served : Served K D L) → IsFinished closed back served
      → (given : Vec D) → given.items ≡ doors → HasServed seeing desk.start given feed served
  has_served back unlisted (served.Ran book doors' feed' reason ledger_faults door_faults door_memory) finished given same =
      rw (finished.3, finished.4, finished.5, finished.6, finished.7, finished.8, finished.0, same)
      (has_run back unlisted (rw finished.0 at finished.1) (rw finished.0 at finished.2))
  has_served back unlisted (served.Memory book doors' feed') finished given same = absurd finished
