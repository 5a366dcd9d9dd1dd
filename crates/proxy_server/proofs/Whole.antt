-- From tasks that were done at a desk to what is left of a proxy, its doors and its upstream's link.
use Rattle.std.proofs.Common.{◌≡◌, ℕ, ◌+◌, List, length, map, refl, sym, ap, ◌∙◌, subst}
use Rattle.std.specs.Global.{Vec}
use Rattle.pool_base.specs.Calls.{Parted}
use Rattle.desk.specs.Machines.{Health, tells_nothing}
use Rattle.desk.specs.Passes.{HasJustOpened, IsSamePass, Opening, fresh_passes}
use Rattle.desk.specs.Views.{workers_from}
use Rattle.desk.specs.Parts.{HasTended}
use Rattle.door_threads.specs.declared.listing.Tended.{Tended}
use Rattle.door_threads.specs.declared.parts.ThreadPart.{ThreadPart}
use Rattle.door_threads.specs.declared.parts.ThreadTask.{ThreadTask}
use Rattle.door_threads.specs.declared.parts.ThreadTask.TheVariants as task
use Rattle.door_threads.specs.Counting.{capped, failed_in, starved_in}
use Rattle.door_threads.specs.Listing.{HasDoneTasks, IsUnlisted, parts_of}
use Rattle.proxy_rules.specs.declared.events.ProxyEvent.{ProxyEvent}
use Rattle.proxy_rules.specs.Answering.{ProxyAnswers}
use Rattle.proxy_server.specs.Calls.{GoodProxyCalls, ProxyCall, wants_memory}
use Rattle.proxy_server.specs.Calling.{ProxyPass}
use Rattle.proxy_server.specs.declared.doors.Proxied.{Proxied}
use Rattle.proxy_server.specs.declared.doors.Proxied.TheVariants as proxied
use Rattle.proxy_server.specs.Ending.{HasProxied, IsFinished}
use Rattle.proxy_server.specs.Parts.{DoesTask, IsAttended, Seeing}
use Rattle.proxy_server.specs.ServingDoors.{HasRunProxy}
use Rattle.proxy_server.proofs.Rows.{AllDone, all_done, done_long, whole}

-- the pass of a part stays its desk's, of the same worker
does_same : {D L : Type 0} (seeing : Seeing D L) (t t' : ThreadTask D L) (old new : ProxyPass) → DoesTask seeing t old t' new → IsSamePass old new
does_same seeing (task.Link link ended) (task.Link link' ended') old new h = h.3.by_pass.adds.same
does_same seeing (task.Door door ended) (task.Door door' ended') old new h = h.2.by_pass.adds.same
does_same seeing (task.Link link ended) (task.Door door' ended') old new h = absurd h
does_same seeing (task.Door door ended) (task.Link link' ended') old new h = absurd h

pub attended_same : {D L : Type 0} (seeing : Seeing D L) (old new : ThreadPart D L × ProxyPass) → IsAttended seeing old new → IsSamePass old.1 new.1
attended_same seeing old new h = does_same seeing old.0.task new.0.task old.1 new.1 h

-- a proxy's events, and its health, which says nothing
abbrev pub events_in : List ProxyEvent → List ProxyEvent
events_in events = events

abbrev pub health_in : List ProxyEvent → Health
health_in events = record { faults = 0; tells = tells_nothing }

-- a desk that was just opened, by what it shows
pub opened_so : {machine : List ProxyEvent} {count : ℕ} {desk : Opening (List ProxyEvent)} {passes : List ProxyPass} → HasJustOpened events_in machine count desk passes
    → HasJustOpened events_in desk.start desk.count desk passes
opened_so {count = count} {desk = desk} opened = record {
  start = refl;
  dealt = refl;
  passes_are = opened.passes_are ∙ ap (λ (m : List ProxyEvent). fresh_passes desk.table m (workers_from 0 count)) (sym opened.start)
      ∙ ap (λ n. fresh_passes desk.table desk.start (workers_from 0 n)) (sym opened.dealt);
  tables = opened.tables;
}

module _ {D L : Type 0} {seeing : Seeing D L} {desk : Opening (List ProxyEvent)} {closed : List ProxyEvent} {listed parts : List (ThreadPart D L)} (up : L) (doors : List D)
    (are : listed ≡ parts_of up doors) (tended : HasTended ProxyAnswers wants_memory events_in health_in (IsAttended seeing) desk listed closed parts) where
  all_of : HasTended ProxyAnswers wants_memory events_in health_in (IsAttended seeing) desk (parts_of up doors) closed parts
  all_of = subst (λ (l : List (ThreadPart D L)). HasTended ProxyAnswers wants_memory events_in health_in (IsAttended seeing) desk l closed parts) are tended

  done : AllDone seeing desk.table desk.start up doors parts all_of.passes
  done = all_done seeing desk.table desk.start up doors parts all_of.passes all_of.tended

  -- all tasks are done
  pub whole_parts : HasDoneTasks parts
  whole_parts = whole seeing desk.table desk.start done

  -- and there are as many as were listed
  pub long_parts : length parts ≡ length doors + 1
  long_parts = done_long seeing desk.table desk.start done

  has_run : (back : Tended D L) → IsUnlisted parts back
      → HasRunProxy seeing.service (record { events = desk.start; doors = map seeing.door doors; up = seeing.link up })
      (record { events = closed; doors = map seeing.door back.doors.items; up = seeing.link back.link }) back.link_end back.door_faults
      back.door_memory
  has_run back unlisted =
      let all = done in
      let at = all_of.closed in
      let restored = unlisted all.rows all.row all.parts_are in
      record {
        phase = all.phase;
        up_calls = all.up_calls;
        shifts = all.shifts;
        served = rw (restored.link_is, restored.end_is) all.served;
        own = all.own;
        worked = all.shifts_are;
        doors_before = all.before;
        doors_after = all.after ∙ ap (λ (l : List D). map seeing.door l) (sym restored.doors_are);
        begins = at.begins;
        good = subst (λ (l : List ProxyCall). GoodProxyCalls closed l) all.calls at.good;
        parted = subst (λ (l : List ProxyCall). Parted desk.start closed 0 0 l) all.calls at.parted;
        door_faults_are = restored.door_faults_are ∙ ap (λ l. capped (failed_in l)) (sym all.reasons);
        door_memory_is = restored.door_memory_is ∙ ap (λ l. capped (starved_in l)) (sym all.reasons);
      }

  -- so the whole is as was said
  pub has_proxied : (back : Tended D L) → IsUnlisted parts back → (served : Proxied D L) → IsFinished closed back served → (given : Vec D) → given.items ≡ doors
      → HasProxied seeing desk.start given up served
  has_proxied back unlisted (proxied.Ran proxy doors' up' reason bad door_faults door_memory) finished given same =
      (rw (finished.0, finished.1, finished.2, finished.3, finished.5, finished.6, same) (has_run back unlisted), finished.4)
  has_proxied back unlisted (proxied.Memory proxy doors' up') finished given same = absurd finished
