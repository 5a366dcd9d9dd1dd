-- Rows of a feed's link and doors, as the tasks of threads left them.
use Rattle.std.proofs.Common.{◌≡◌, ℕ, ◌+◌, List, [], ◌∷◌, ◌++◌, None, map, length, refl, sym, ap, ◌∙◌, arith}
use Rattle.std.specs.List.{AllByRecursion}
use Rattle.std.proofs.lemmas.List.{length-map}
use Rattle.atomic_table.specs.Seated.{TableId}
use Rattle.desk.specs.Closing.{calls_of}
use Rattle.desk.specs.Passes.{fresh_passes}
use Rattle.desk.specs.Views.{workers_from}
use Rattle.desk.specs.Parts.{TendsEach}
use Rattle.pool_network.specs.Seen.{DoorSeen}
use Rattle.pool_history.specs.declared.events.Event.{Event}
use Rattle.pool_history.specs.declared.events.Role.TheVariants as role
use Rattle.pool_history.specs.Calls.{PoolCall}
use Rattle.pool_sessions.specs.Courses.{Course, calls_on}
use Rattle.pool_server.specs.Calling.{PoolPass}
use Rattle.pool_server.specs.Visits.{Asking, IsVisit, ServesLink}
use Rattle.pool_server.specs.Shifts.{IsWorked, Shift, calls_at}
use Rattle.door_threads.specs.declared.parts.ThreadPart.{ThreadPart}
use Rattle.door_threads.specs.declared.parts.ThreadTask.{ThreadTask}
use Rattle.door_threads.specs.declared.parts.ThreadTask.TheVariants as task
use Rattle.pool_server.specs.Counting.{capped, faulted_in}
use Rattle.door_threads.specs.Listing.{DoorRow, LinkRow, HasDoneTasks, door_part, door_row_part, faults_in, link_part, link_row_part, parts_of, rows_of}
use Rattle.pool_server.specs.Parts.{DoesTask, IsAttended, Seeing, manner_of}
use Rattle.pool_server.specs.Serving.{AreShifts, NumbersRise}
use Rattle.pool_server.specs.Tending.{all_calls, calls_of_shifts}
use Rattle.door_threads.proofs.Counts.{capped_sum}
use Rattle.pool_server.proofs.Counts.{faulted_both, through_zero}

-- a pass that was just dealt
abbrev fresh_pass : TableId → List Event → ℕ → PoolPass
fresh_pass table start worker = record { table = table; worker = worker; seen = start; known = 0; calls = [] }

-- no call was answered by the keeper's fault yet
abbrev fresh_asking : PoolPass → Asking
fresh_asking pass = record { pass = pass; faults = 0 }

module _ {D L : Type 0} (seeing : Seeing D L) where
  -- a door that was attended
  pub record DoorDone (door : D) (old : Asking) (part : ThreadPart D L) (pass : PoolPass) : Type 0 where
    pub row : DoorRow D
    pub part_is : part ≡ door_row_part row
    pub worked : IsWorked seeing.service.terms (manner_of seeing.service role.Miner) seeing.service.door_turns (seeing.door door) (seeing.door row.door) old (record { pass = pass; faults = row.faults }) row.reason

  door_done : (door : D) (old : Asking) (t : ThreadTask D L) (pass : PoolPass) (faults : ℕ) → DoesTask seeing (task.Door door None) old t (record { pass = pass; faults = faults })
      → DoorDone door old (record { task = t; faults = faults }) pass
  door_done door old (task.Link link ended) pass faults h = absurd h
  door_done door old (task.Door after ended) pass faults h = record {
    row = record { door = after; faults = faults; reason = h.0 };
    part_is = ap (λ e. record { task = task.Door after e; faults = faults }) h.1;
    worked = h.2;
  }

  -- a feed's link that was attended
  pub record FeedDone (link : L) (old : Asking) (part : ThreadPart D L) (pass : PoolPass) : Type 0 where
    pub row : LinkRow L
    pub part_is : part ≡ link_row_part row
    pub served : ServesLink seeing.service.terms (manner_of seeing.service role.Feed) (seeing.link link) (seeing.link row.link) old (record { pass = pass; faults = row.faults }) row.reason

  feed_done : (link : L) (old : Asking) (t : ThreadTask D L) (pass : PoolPass) (faults : ℕ) → DoesTask seeing (task.Link link None) old t (record { pass = pass; faults = faults })
      → FeedDone link old (record { task = t; faults = faults }) pass
  feed_done link old (task.Door after ended) pass faults h = absurd h
  feed_done link old (task.Link after ended) pass faults h = record {
    row = record { link = after; faults = faults; reason = h.0 };
    part_is = ap (λ e. record { task = task.Link after e; faults = faults }) h.1;
    served = h.2;
  }

  module _ (table : TableId) (start : List Event) where
    -- all doors that were attended by passes that were just dealt, to workers in a row
    pub record DoorsDone (worker : ℕ) (doors : List D) (parts : List (ThreadPart D L)) (passes : List PoolPass) : Type 0 where
      pub rows : List (DoorRow D)
      pub shifts : List Shift
      pub parts_are : parts ≡ map (λ row. door_row_part row) rows
      pub shifts_are : AreShifts seeing.service worker shifts
      pub calls : calls_of passes ≡ calls_of_shifts shifts
      pub rise : AllByRecursion (λ (shift : Shift). NumbersRise (calls_at shift.answers)) shifts
      pub before : map (λ shift. shift.before) shifts ≡ map seeing.door doors
      pub after : map (λ shift. shift.after) shifts ≡ map seeing.door (map (λ row. row.door) rows)
      pub reasons : map (λ shift. shift.reason) shifts ≡ map (λ row. row.reason) rows
      pub faults : capped (faults_in rows) ≡ capped (faulted_in (calls_of_shifts shifts))

    abbrev parts_for : List D → List (ThreadPart D L)
    parts_for doors = map (λ door. door_part door) doors

    doors_done : (worker : ℕ) (doors : List D) (parts : List (ThreadPart D L)) (passes : List PoolPass)
        → TendsEach (IsAttended seeing) (parts_for doors) (fresh_passes table start (workers_from worker (length (parts_for doors)))) parts passes
        → DoorsDone worker doors parts passes
    doors_done worker [] [] [] h =
        record { rows = []; shifts = []; parts_are = refl; shifts_are = tt; calls = refl; rise = tt; before = refl; after = refl; reasons = refl; faults = refl }
    doors_done worker [] [] (pass ∷ passes) h = absurd h
    doors_done worker [] (part ∷ parts) passes h = absurd h
    doors_done worker (door ∷ doors) [] passes h = absurd h
    doors_done worker (door ∷ doors) (part ∷ parts) [] h = absurd h
    doors_done worker (door ∷ doors) (part ∷ parts) (pass ∷ passes) h =
        let rest = doors_done (worker + 1) doors parts passes h.1 in
        let one = door_done door (fresh_asking (fresh_pass table start worker)) part.task pass part.faults h.0 in
        let row = one.row in
        let answers = one.worked.answers in
        let on = one.worked.asks.goes_on in
        let shift : Shift = record { before = seeing.door door; after = seeing.door row.door; answers = answers; reason = row.reason } in
        let counted = one.worked.asks.faults ∙ through_zero (calls_at answers) in
        record {
          rows = row ∷ rest.rows;
          shifts = shift ∷ rest.shifts;
          parts_are = (λ i. one.part_is i ∷ rest.parts_are i);
          shifts_are = (one.worked.shift, rest.shifts_are);
          calls = ap (λ (l : List PoolCall). l ++ calls_of passes) on.calls_are ∙ ap (λ (l : List PoolCall). calls_at answers ++ l) rest.calls;
          rise = ((pass.known, on.numbers), rest.rise);
          before = ap (λ (l : List DoorSeen). seeing.door door ∷ l) rest.before;
          after = ap (λ (l : List DoorSeen). seeing.door row.door ∷ l) rest.after;
          reasons = ap (λ l. row.reason ∷ l) rest.reasons;
          faults = ap (λ n. capped (n + faults_in rest.rows)) counted ∙ capped_sum (faulted_in (calls_at answers)) (faults_in rest.rows) (faulted_in (calls_of_shifts rest.shifts)) rest.faults
              ∙ ap (λ n. capped n) (sym (faulted_both (calls_at answers) (calls_of_shifts rest.shifts)));
        }

    -- the feed's link and all doors
    pub record AllDone (feed : L) (doors : List D) (parts : List (ThreadPart D L)) (passes : List PoolPass) : Type 0 where
      pub rows : List (DoorRow D)
      pub row : LinkRow L
      pub course : Course
      pub shifts : List Shift
      pub parts_are : parts ≡ rows_of row rows
      pub fed : IsVisit seeing.service.terms (manner_of seeing.service role.Feed) 0 (record { before = seeing.link feed; after = seeing.link row.link; course = course; reason = row.reason })
      pub shifts_are : AreShifts seeing.service 1 shifts
      pub calls : calls_of passes ≡ all_calls course shifts
      pub rise : NumbersRise (calls_on course) × AllByRecursion (λ (shift : Shift). NumbersRise (calls_at shift.answers)) shifts
      pub before : map (λ shift. shift.before) shifts ≡ map seeing.door doors
      pub after : map (λ shift. shift.after) shifts ≡ map seeing.door (map (λ row. row.door) rows)
      pub reasons : map (λ shift. shift.reason) shifts ≡ map (λ row. row.reason) rows
      pub faults : capped (row.faults + faults_in rows) ≡ capped (faulted_in (all_calls course shifts))

    pub all_done : (feed : L) (doors : List D) (parts : List (ThreadPart D L)) (passes : List PoolPass)
        → TendsEach (IsAttended seeing) (parts_of feed doors) (fresh_passes table start (workers_from 0 (length (parts_of feed doors)))) parts passes
        → AllDone feed doors parts passes
    all_done feed doors [] passes h = absurd h
    all_done feed doors (part ∷ parts) [] h = absurd h
    all_done feed doors (part ∷ parts) (pass ∷ passes) h =
        let rest = doors_done 1 doors parts passes h.1 in
        let one = feed_done feed (fresh_asking (fresh_pass table start 0)) part.task pass part.faults h.0 in
        let course = one.served.course in
        let on = one.served.asks.goes_on in
        let counted = one.served.asks.faults ∙ through_zero (calls_on course) in
        record {
          rows = rest.rows;
          row = one.row;
          course = course;
          shifts = rest.shifts;
          parts_are = (λ i. one.part_is i ∷ rest.parts_are i);
          fed = one.served.visit;
          shifts_are = rest.shifts_are;
          calls = ap (λ (l : List PoolCall). l ++ calls_of passes) on.calls_are ∙ ap (λ (l : List PoolCall). calls_on course ++ l) rest.calls;
          rise = ((pass.known, on.numbers), rest.rise);
          before = rest.before;
          after = rest.after;
          reasons = rest.reasons;
          faults = ap (λ n. capped (n + faults_in rest.rows)) counted
              ∙ capped_sum (faulted_in (calls_on course)) (faults_in rest.rows) (faulted_in (calls_of_shifts rest.shifts)) rest.faults
              ∙ ap (λ n. capped n) (sym (faulted_both (calls_on course) (calls_of_shifts rest.shifts)));
        }

    -- so all tasks are done
    pub whole : {feed : L} {doors : List D} {parts : List (ThreadPart D L)} {passes : List PoolPass} → AllDone feed doors parts passes → HasDoneTasks parts
    whole done = record { rows = done.rows; link = done.row; parts_are = done.parts_are }

    -- and there are as many as before
    pub done_long : {feed : L} {doors : List D} {parts : List (ThreadPart D L)} {passes : List PoolPass} → AllDone feed doors parts passes → length parts ≡ length doors + 1
    done_long {doors = doors} done =
        let p = ap (λ (s : List (ThreadPart D L)). length s) done.parts_are in
        let r : length (map (λ (row : DoorRow D). door_row_part {D = D} {L = L} row) done.rows) ≡ length done.rows = length-map done.rows (λ row. door_row_part row) in
        let rr = length-map done.rows (λ row. row.reason) in
        let sr = length-map done.shifts (λ shift. shift.reason) in
        let sb = length-map done.shifts (λ shift. shift.before) in
        let db = length-map doors seeing.door in
        let e = ap (λ l. length l) done.reasons in
        let b = ap (λ (l : List DoorSeen). length l) done.before in
        omega (arith, p, r, rr, sr, sb, db, e, b)
