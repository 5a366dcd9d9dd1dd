-- Rows of an upstream's link and doors, as the tasks of threads left them.
use Rattle.std.proofs.Common.{◌≡◌, ℕ, ◌+◌, List, [], ◌∷◌, ◌++◌, None, map, length, refl, sym, ap, subst, arith}
use Rattle.std.specs.List.{flat_map}
use Rattle.std.proofs.lemmas.List.{length-map}
use Rattle.atomic_table.specs.Seated.{TableId}
use Rattle.desk.specs.Closing.{calls_of}
use Rattle.desk.specs.Passes.{fresh_passes}
use Rattle.desk.specs.Views.{workers_from}
use Rattle.desk.specs.Parts.{TendsEach}
use Rattle.pool_network.specs.Seen.{DoorSeen}
use Rattle.door_threads.specs.declared.parts.ThreadPart.{ThreadPart}
use Rattle.door_threads.specs.declared.parts.ThreadTask.{ThreadTask}
use Rattle.door_threads.specs.declared.parts.ThreadTask.TheVariants as task
use Rattle.door_threads.specs.Listing.{DoorRow, LinkRow, HasDoneTasks, door_part, door_row_part, link_row_part, parts_of, rows_of}
use Rattle.proxy_rules.specs.declared.events.ProxyEvent.{ProxyEvent}
use Rattle.proxy_server.specs.declared.phase.UpPhase.{UpPhase}
use Rattle.proxy_server.specs.Calls.{ProxyCall}
use Rattle.proxy_server.specs.Upstreams.{ServesUpstream}
use Rattle.proxy_server.specs.Calling.{ProxyPass}
use Rattle.proxy_server.specs.Shifts.{IsMinersShift}
use Rattle.proxy_server.specs.Visits.{CallsByPass, Notes, VisitsUpstream}
use Rattle.proxy_server.specs.Parts.{DoesTask, IsAttended, Seeing}
use Rattle.proxy_server.specs.ServingDoors.{AreOwn, AreShiftsFrom, MinersShift, all_calls}

-- a pass that was just dealt
abbrev fresh_pass : TableId → List ProxyEvent → ℕ → ProxyPass
fresh_pass table start worker = record { table = table; worker = worker; seen = start; known = 0; calls = [] }

-- its calls are its worker's own
own_calls : (table : TableId) (start : List ProxyEvent) (worker : ℕ) (calls : List ProxyCall) (pass : ProxyPass) → CallsByPass (fresh_pass table start worker) calls pass → AreOwn worker pass.calls
own_calls table start worker calls pass by =
    subst (λ (cs : List ProxyCall). AreOwn worker cs) (sym by.adds.calls_are) (record { own = by.own; rise = (pass.known, by.adds.numbers) })

module _ {D L : Type 0} (seeing : Seeing D L) where
  -- a door that was attended
  pub record DoorDone (door : D) (old : ProxyPass) (part : ThreadPart D L) (pass : ProxyPass) : Type 0 where
    pub row : DoorRow D
    pub part_is : part ≡ door_row_part row
    pub worked : IsMinersShift seeing.service.idle_turns seeing.service.door_turns (seeing.door door) (seeing.door row.door) old pass row.reason

  door_done : (door : D) (old : ProxyPass) (t : ThreadTask D L) (faults : ℕ) (pass : ProxyPass) → DoesTask seeing (task.Door door None) old t pass
      → DoorDone door old (record { task = t; faults = faults }) pass
  door_done door old (task.Link link ended) faults pass h = absurd h
  door_done door old (task.Door after ended) faults pass h = record {
    row = record { door = after; faults = faults; reason = h.0 };
    part_is = ap (λ e. record { task = task.Door after e; faults = faults }) h.1;
    worked = h.2;
  }

  -- the upstream's link that was attended
  pub record UpDone (link : L) (old : ProxyPass) (part : ThreadPart D L) (pass : ProxyPass) : Type 0 where
    pub row : LinkRow L
    pub part_is : part ≡ link_row_part row
    pub phase : UpPhase
    pub served : VisitsUpstream seeing.service.idle_turns (seeing.link link) (seeing.link row.link) row.reason phase old pass

  up_done : (link : L) (old : ProxyPass) (t : ThreadTask D L) (faults : ℕ) (pass : ProxyPass) → DoesTask seeing (task.Link link None) old t pass
      → UpDone link old (record { task = t; faults = faults }) pass
  up_done link old (task.Door after ended) faults pass h = absurd h
  up_done link old (task.Link after ended) faults pass h = record {
    row = record { link = after; faults = faults; reason = h.0 };
    part_is = ap (λ e. record { task = task.Link after e; faults = faults }) h.2;
    phase = h.1;
    served = h.3;
  }

  module _ (table : TableId) (start : List ProxyEvent) where
    -- all doors that were attended by passes that were just dealt, to workers in a row
    pub record DoorsDone (worker : ℕ) (doors : List D) (parts : List (ThreadPart D L)) (passes : List ProxyPass) : Type 0 where
      pub rows : List (DoorRow D)
      pub shifts : List MinersShift
      pub parts_are : parts ≡ map (λ row. door_row_part row) rows
      pub shifts_are : AreShiftsFrom seeing.service worker shifts
      pub calls : calls_of passes ≡ flat_map (λ (shift : MinersShift). shift.calls) shifts
      pub before : map (λ shift. shift.before) shifts ≡ map seeing.door doors
      pub after : map (λ shift. shift.after) shifts ≡ map seeing.door (map (λ row. row.door) rows)
      pub reasons : map (λ shift. shift.reason) shifts ≡ map (λ row. row.reason) rows

    abbrev parts_for : List D → List (ThreadPart D L)
    parts_for doors = map (λ door. door_part door) doors

    doors_done : (worker : ℕ) (doors : List D) (parts : List (ThreadPart D L)) (passes : List ProxyPass)
        → TendsEach (IsAttended seeing) (parts_for doors) (fresh_passes table start (workers_from worker (length (parts_for doors)))) parts passes
        → DoorsDone worker doors parts passes
    doors_done worker [] [] [] h = record { rows = []; shifts = []; parts_are = refl; shifts_are = tt; calls = refl; before = refl; after = refl; reasons = refl }
    doors_done worker [] [] (pass ∷ passes) h = absurd h
    doors_done worker [] (part ∷ parts) passes h = absurd h
    doors_done worker (door ∷ doors) [] passes h = absurd h
    doors_done worker (door ∷ doors) (part ∷ parts) [] h = absurd h
    doors_done worker (door ∷ doors) (part ∷ parts) (pass ∷ passes) h =
        let rest = doors_done (worker + 1) doors parts passes h.1 in
        let one = door_done door (fresh_pass table start worker) part.task part.faults pass h.0 in
        let row = one.row in
        let shift : MinersShift = record { before = seeing.door door; after = seeing.door row.door; answers = one.worked.answers; calls = pass.calls; reason = row.reason } in
        record {
          rows = row ∷ rest.rows;
          shifts = shift ∷ rest.shifts;
          parts_are = (λ i. one.part_is i ∷ rest.parts_are i);
          shifts_are = (record { miners = one.worked.miners; asked = one.worked.asked; calls = own_calls table start worker one.worked.calls pass one.worked.by_pass }, rest.shifts_are);
          calls = ap (λ (l : List ProxyCall). pass.calls ++ l) rest.calls;
          before = ap (λ (l : List DoorSeen). seeing.door door ∷ l) rest.before;
          after = ap (λ (l : List DoorSeen). seeing.door row.door ∷ l) rest.after;
          reasons = ap (λ l. row.reason ∷ l) rest.reasons;
        }

    -- the upstream's link and all doors
    pub record AllDone (up : L) (doors : List D) (parts : List (ThreadPart D L)) (passes : List ProxyPass) : Type 0 where
      pub rows : List (DoorRow D)
      pub row : LinkRow L
      pub phase : UpPhase
      pub up_calls : List ProxyCall
      pub shifts : List MinersShift
      pub parts_are : parts ≡ rows_of row rows
      pub served : ServesUpstream Notes seeing.service.idle_turns [] (seeing.link up) row.reason phase up_calls (seeing.link row.link)
      pub own : AreOwn 0 up_calls
      pub shifts_are : AreShiftsFrom seeing.service 1 shifts
      pub calls : calls_of passes ≡ all_calls up_calls shifts
      pub before : map (λ shift. shift.before) shifts ≡ map seeing.door doors
      pub after : map (λ shift. shift.after) shifts ≡ map seeing.door (map (λ row. row.door) rows)
      pub reasons : map (λ shift. shift.reason) shifts ≡ map (λ row. row.reason) rows

    pub all_done : (up : L) (doors : List D) (parts : List (ThreadPart D L)) (passes : List ProxyPass)
        → TendsEach (IsAttended seeing) (parts_of up doors) (fresh_passes table start (workers_from 0 (length (parts_of up doors)))) parts passes
        → AllDone up doors parts passes
    all_done up doors [] passes h = absurd h
    all_done up doors (part ∷ parts) [] h = absurd h
    all_done up doors (part ∷ parts) (pass ∷ passes) h =
        let rest = doors_done 1 doors parts passes h.1 in
        let one = up_done up (fresh_pass table start 0) part.task part.faults pass h.0 in
        record {
          rows = rest.rows;
          row = one.row;
          phase = one.phase;
          up_calls = pass.calls;
          shifts = rest.shifts;
          parts_are = (λ i. one.part_is i ∷ rest.parts_are i);
          served = one.served.visit;
          own = own_calls table start 0 one.served.calls pass one.served.by_pass;
          shifts_are = rest.shifts_are;
          calls = ap (λ (l : List ProxyCall). pass.calls ++ l) rest.calls;
          before = rest.before;
          after = rest.after;
          reasons = rest.reasons;
        }

    -- so all tasks are done
    pub whole : {up : L} {doors : List D} {parts : List (ThreadPart D L)} {passes : List ProxyPass} → AllDone up doors parts passes → HasDoneTasks parts
    whole done = record { rows = done.rows; link = done.row; parts_are = done.parts_are }

    -- and there are as many as before
    pub done_long : {up : L} {doors : List D} {parts : List (ThreadPart D L)} {passes : List ProxyPass} → AllDone up doors parts passes → length parts ≡ length doors + 1
    done_long {doors = doors} done =
        let p = ap (λ (s : List (ThreadPart D L)). length s) done.parts_are in
        let r : length (map (λ (row : DoorRow D). door_row_part {D = D} {L = L} row) done.rows) ≡ length done.rows = length-map done.rows (λ row. door_row_part row) in
        let rr = length-map done.rows (λ row. row.reason) in
        let sr = length-map done.shifts (λ shift. shift.reason) in
        let sb = length-map done.shifts (λ shift. shift.before) in
        let db = length-map doors seeing.door in
        let e = ap (λ l. length l) done.reasons in
        let b = ap (λ (l : List DoorSeen). length l) done.before in
        omega (arith, p, r, rr, sr, sb, db, e, b)
