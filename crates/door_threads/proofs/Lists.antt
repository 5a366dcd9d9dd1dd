-- Parts are made of doors one by one, and taken apart one by one.
use Rattle.std.proofs.Common.{◌≡◌, ℕ, ◌+◌, List, [], ◌∷◌, ◌++◌, Some, map, reverse, length, refl, sym, ap, subst, ◌∙◌, append_assoc, append-nil, arith}
use Rattle.std.proofs.lemmas.List.{length-append, length-map, map-append, reverse-append}
use Rattle.session_steps.specs.declared.ends.SessionEnd.{SessionEnd}
use Rattle.door_threads.specs.declared.working.DoorEnd.{DoorEnd}
use Rattle.door_threads.specs.Asking.{is_failed_end}
use Rattle.door_threads.specs.declared.listing.Tended.{Tended}
use Rattle.door_threads.specs.declared.parts.ThreadPart.{ThreadPart}
use Rattle.door_threads.specs.declared.parts.ThreadTask.{ThreadTask}
use Rattle.door_threads.specs.declared.parts.ThreadTask.TheVariants as task
use Rattle.door_threads.specs.Counting.{capped, count_if, failed_in, is_starved_end, starved_in}
use Rattle.door_threads.specs.Listing.{DoorRow, LinkRow, HasDoneTasks, IsAskedTask, IsLinkTask, IsUnlisted, door_part, door_row_part, faults_in, link_part, link_row_part, parts_of, rows_of}
use Rattle.door_threads.proofs.Counts.{capped_more, failed_more, starved_more}

none_is_some : {X : Type 0} (xs : List X) (x : X) → [] ≡ xs ++ x ∷ [] → ⊥
none_is_some {X} xs x e =
    let l = ap (λ (s : List X). length s) e in
    let m = length-append xs (x ∷ []) in
    omega (arith, l, m)

-- lists that end alike are alike
last_same : {X : Type 0} (xs ys : List X) (x y : X) → xs ++ x ∷ [] ≡ ys ++ y ∷ [] → (xs ≡ ys) × (x ≡ y)
last_same [] [] x y e = (refl, cc)
last_same {X} [] (z ∷ ys) x y e =
    let l = ap (λ (s : List X). length s) e in
    let m = length-append ys (y ∷ []) in
    absurd (omega (arith, l, m))
last_same {X} (z ∷ xs) [] x y e =
    let l = ap (λ (s : List X). length s) e in
    let m = length-append xs (x ∷ []) in
    absurd (omega (arith, l, m))
last_same {X} (w ∷ xs) (z ∷ ys) x y e =
    let first : w ≡ z = cc in
    let rest : xs ++ x ∷ [] ≡ ys ++ y ∷ [] = cc in
    let r = last_same xs ys x y rest in
    ((λ i. first i ∷ r.0 i), r.1)

-- of so many, the last one first
abbrev pub backward : {X Y : Type 0} → (X → Y) → List X → List Y
backward f [] = []
backward f (x ∷ xs) = backward f xs ++ f x ∷ []

backward_back : {X Y : Type 0} (f : X → Y) (xs : List X) → reverse (backward f xs) ≡ map f xs
backward_back f [] = refl
backward_back {X} {Y} f (x ∷ xs) = reverse-append (backward f xs) (f x ∷ []) ∙ ap (λ (l : List Y). f x ∷ l) (backward_back f xs)

pub back_map : {X Y : Type 0} (f : X → Y) (xs : List X) → reverse (map f xs) ≡ backward f xs
back_map f [] = refl
back_map {X} {Y} f (x ∷ xs) = reverse-append (f x ∷ []) (map f xs) ∙ ap (λ (l : List Y). l ++ f x ∷ []) (back_map f xs)

-- so many doors were made parts of, from the last one on
pub record Listing {D L : Type 0} (doors left : List D) (parts : List (ThreadPart D L)) : Type 0 where
  pub taken : List D
  pub doors_are : doors ≡ left ++ taken
  pub parts_are : parts ≡ backward (λ door. door_part door) taken

module _ {D L : Type 0} where
  pub listing_none : (doors : List D) (parts : List (ThreadPart D L)) → parts ≡ [] → Listing doors doors parts
  listing_none doors parts none = record { taken = []; doors_are = sym (append-nil doors); parts_are = none }

  pub listing_more : {doors left rest : List D} {parts more : List (ThreadPart D L)} (door : D) → Listing doors left parts → left ≡ rest ++ door ∷ []
      → more ≡ parts ++ door_part door ∷ [] → Listing doors rest more
  listing_more {rest = rest} door listing left parts = record {
    taken = door ∷ listing.taken;
    doors_are = listing.doors_are ∙ ap (λ (l : List D). l ++ listing.taken) left ∙ append_assoc rest (door ∷ []) listing.taken;
    parts_are = parts ∙ ap (λ (l : List (ThreadPart D L)). l ++ door_part door ∷ []) listing.parts_are;
  }

  -- all doors were, and the link comes first
  pub listing_all : {doors left : List D} {parts more turned : List (ThreadPart D L)} (link : L) → Listing doors left parts → left ≡ [] → more ≡ parts ++ link_part link ∷ []
      → turned ≡ reverse more → turned ≡ parts_of link doors
  listing_all {doors = doors} link listing none more turned =
      let all : doors ≡ listing.taken = listing.doors_are ∙ ap (λ (l : List D). l ++ listing.taken) none in
      turned ∙ ap (λ (l : List (ThreadPart D L)). reverse l) (more ∙ ap (λ (l : List (ThreadPart D L)). l ++ link_part link ∷ []) listing.parts_are)
      ∙ reverse-append (backward (λ door. door_part door) listing.taken) (link_part link ∷ [])
      ∙ ap (λ (l : List (ThreadPart D L)). link_part link ∷ l) (backward_back (λ door. door_part door) listing.taken)
      ∙ ap (λ (l : List D). parts_of link l) (sym all)

faults_more : {D : Type 0} (rows : List (DoorRow D)) (row : DoorRow D) → faults_in (rows ++ row ∷ []) ≡ faults_in rows + row.faults
faults_more [] row = omega arith
faults_more (x ∷ xs) row = let e = faults_more xs row in omega (arith, e)

abbrev row_parts : {D L : Type 0} → List (DoorRow D) → List (ThreadPart D L)
row_parts rows = backward (λ row. door_row_part row) rows

-- so many rows were taken back, from the first on
pub record Unlisting {D L : Type 0} (rows : List (DoorRow D)) (left : List (ThreadPart D L)) (doors : List D) (ledger_faults door_faults door_memory : ℕ) : Type 0 where
  pub done : List (DoorRow D)
  pub rest : List (DoorRow D)
  pub rows_are : rows ≡ done ++ rest
  pub left_are : left ≡ row_parts rest
  pub doors_are : doors ≡ map (λ row. row.door) done
  pub ledger_faults_are : ledger_faults ≡ capped (faults_in done)
  pub door_faults_are : door_faults ≡ capped (failed_in (map (λ row. row.reason) done))
  pub door_memory_is : door_memory ≡ capped (starved_in (map (λ row. row.reason) done))

module _ {D L : Type 0} where
  -- the last of a row's parts is the first row's
  pub record FirstRow (rest : List (DoorRow D)) (left : List (ThreadPart D L)) (part : ThreadPart D L) : Type 0 where
    pub row : DoorRow D
    pub others : List (DoorRow D)
    pub rest_is : rest ≡ row ∷ others
    pub left_is : left ≡ row_parts others
    pub part_is : part ≡ door_row_part row

  pub first_row : (rest : List (DoorRow D)) (left : List (ThreadPart D L)) (part : ThreadPart D L) → row_parts rest ≡ left ++ part ∷ [] → FirstRow rest left part
  first_row [] left part e = absurd (none_is_some left part e)
  first_row (row ∷ others) left part e =
      let same = last_same left (row_parts others) part (door_row_part row) (sym e) in
      record { row = row; others = others; rest_is = refl; left_is = same.0; part_is = same.1 }

  pub unlisting_more : {rows : List (DoorRow D)} {left fewer : List (ThreadPart D L)} {doors : List D} {ledger failed starved : ℕ}
      (part : ThreadPart D L) → (so_far : Unlisting rows left doors ledger failed starved) → (one : FirstRow so_far.rest fewer part)
      → {doors' : List D} {ledger' failed' starved' : ℕ}
      → doors' ≡ doors ++ one.row.door ∷ [] → ledger' ≡ capped (ledger + one.row.faults)
      → failed' ≡ capped (failed + count_if (is_failed_end one.row.reason)) → starved' ≡ capped (starved + count_if (is_starved_end one.row.reason))
      → Unlisting rows fewer doors' ledger' failed' starved'
  unlisting_more part so_far one doors ledger failed starved =
      let row = one.row in
      let done = so_far.done in
      record {
        done = done ++ row ∷ [];
        rest = one.others;
        rows_are = so_far.rows_are ∙ ap (λ (l : List (DoorRow D)). done ++ l) one.rest_is ∙ sym (append_assoc done (row ∷ []) one.others);
        left_are = one.left_is;
        doors_are = doors ∙ ap (λ (l : List D). l ++ row.door ∷ []) so_far.doors_are ∙ sym (map-append (λ (r : DoorRow D). r.door) done (row ∷ []));
        ledger_faults_are = ledger ∙ capped_more _ (faults_in done) row.faults so_far.ledger_faults_are ∙ ap (λ n. capped n) (sym (faults_more done row));
        door_faults_are = failed ∙ capped_more _ (failed_in (map (λ (r : DoorRow D). r.reason) done)) (count_if (is_failed_end row.reason)) so_far.door_faults_are
            ∙ ap (λ n. capped n) (sym (failed_more (map (λ (r : DoorRow D). r.reason) done) row.reason) ∙ ap (λ l. failed_in l) (sym (map-append (λ (r : DoorRow D). r.reason) done (row ∷ []))));
        door_memory_is = starved ∙ capped_more _ (starved_in (map (λ (r : DoorRow D). r.reason) done)) (count_if (is_starved_end row.reason)) so_far.door_memory_is
            ∙ ap (λ n. capped n) (sym (starved_more (map (λ (r : DoorRow D). r.reason) done) row.reason) ∙ ap (λ l. starved_in l) (sym (map-append (λ (r : DoorRow D). r.reason) done (row ∷ []))));
      }

-- whatever rows the parts are of
abbrev pub UnlistsSo : {D L : Type 0} → List (ThreadPart D L) → List (ThreadPart D L) → List D → ℕ → ℕ → ℕ → Type 0
UnlistsSo {D} {L} parts left doors ledger_faults door_faults door_memory =
    (rows : List (DoorRow D)) (link : LinkRow L) → parts ≡ rows_of link rows → Unlisting rows left doors ledger_faults door_faults door_memory

capped_both : (sum count more : ℕ) → count ≡ capped sum → capped (count + more) ≡ capped (more + sum)
capped_both sum count more is = omega (arith, is)

module _ {D L : Type 0} where
  door_is : (t : ThreadTask D L) (door : D) (reason : DoorEnd) (row : DoorRow D) → t ≡ task.Door door (Some reason) → t ≡ task.Door row.door (Some row.reason)
      → (door ≡ row.door) × (reason ≡ row.reason)
  door_is t door reason row one other =
      let e : task.Door door (Some reason) ≡ task.Door row.door (Some row.reason) = sym one ∙ other in
      (cc, cc)

  link_is_row : (t : ThreadTask D L) (link : L) (reason : SessionEnd) (row : LinkRow L) → t ≡ task.Link link (Some reason) → t ≡ task.Link row.link (Some row.reason)
      → (link ≡ row.link) × (reason ≡ row.reason)
  link_is_row t link reason row one other =
      let e : task.Link link (Some reason) ≡ task.Link row.link (Some row.reason) = sym one ∙ other in
      (cc, cc)

  no_rows : (rest : List (DoorRow D)) → [] ≡ row_parts {D = D} {L = L} rest → rest ≡ []
  no_rows [] e = refl
  no_rows (row ∷ rest) e = absurd (none_is_some (row_parts rest) (door_row_part row) e)

  -- the parts turned round: the doors', the last one first, and the link's
  turned_rows : (rows : List (DoorRow D)) (link : LinkRow L) → reverse (rows_of link rows) ≡ row_parts rows ++ link_row_part link ∷ []
  turned_rows rows link =
      reverse-append (link_row_part link ∷ []) (map (λ row. door_row_part row) rows)
      ∙ ap (λ (l : List (ThreadPart D L)). l ++ link_row_part link ∷ []) (back_map (λ row. door_row_part row) rows)

  -- the link's part is taken first
  pub link_taken : (left : List (ThreadPart D L)) {parts turned : List (ThreadPart D L)} (part : ThreadPart D L) (rows : List (DoorRow D)) (link : LinkRow L) → turned ≡ reverse parts
      → turned ≡ left ++ part ∷ [] → parts ≡ rows_of link rows → (left ≡ row_parts rows) × (part ≡ link_row_part link)
  link_taken left part rows link turned popped is =
      last_same left (row_parts rows) part (link_row_part link) (sym popped ∙ turned ∙ ap (λ (l : List (ThreadPart D L)). reverse l) is ∙ turned_rows rows link)

  pub unlists_begin : {parts turned left : List (ThreadPart D L)} {doors : List D} (part : ThreadPart D L) → turned ≡ reverse parts → turned ≡ left ++ part ∷ [] → doors ≡ []
      → UnlistsSo parts left doors 0 0 0
  unlists_begin {left = left} part turned popped doors = λ rows link is.
      let same = link_taken left part rows link turned popped is in
      record {
        done = [];
        rest = rows;
        rows_are = refl;
        left_are = same.0;
        doors_are = doors;
        ledger_faults_are = refl;
        door_faults_are = refl;
        door_memory_is = refl;
      }

  -- a door's part is one whose door was asked
  pub asked_task : (fewer : List (ThreadPart D L)) {parts left : List (ThreadPart D L)} {doors : List D} {ledger failed starved : ℕ} (part : ThreadPart D L)
      → UnlistsSo parts left doors ledger failed starved → HasDoneTasks parts → left ≡ fewer ++ part ∷ [] → IsAskedTask part.task
  asked_task fewer part unlists whole popped =
      let so_far = unlists whole.rows whole.link whole.parts_are in
      let one = first_row so_far.rest fewer part (sym so_far.left_are ∙ popped) in
      subst (λ (p : ThreadPart D L). IsAskedTask p.task) (sym one.part_is) tt

  -- a part more
  pub unlists_next : {parts left fewer : List (ThreadPart D L)} {doors doors' : List D} {ledger failed starved ledger' failed' starved' : ℕ}
      (part : ThreadPart D L) (door : D) (reason : DoorEnd) → UnlistsSo parts left doors ledger failed starved → left ≡ fewer ++ part ∷ []
      → part.task ≡ task.Door door (Some reason) → doors' ≡ doors ++ door ∷ [] → ledger' ≡ capped (ledger + part.faults)
      → failed' ≡ capped (failed + count_if (is_failed_end reason)) → starved' ≡ capped (starved + count_if (is_starved_end reason))
      → UnlistsSo parts fewer doors' ledger' failed' starved'
  unlists_next {fewer = fewer} {doors = doors} {ledger = ledger} {failed = failed} {starved = starved} part door reason unlists popped task_is doors_are ledger_is failed_is starved_is =
      λ rows link is.
      let so_far = unlists rows link is in
      let one = first_row so_far.rest fewer part (sym so_far.left_are ∙ popped) in
      let same = door_is part.task door reason one.row task_is (ap (λ (p : ThreadPart D L). p.task) one.part_is) in
      unlisting_more part so_far one (doors_are ∙ ap (λ (d : D). doors ++ d ∷ []) same.0)
      (ledger_is ∙ ap (λ (p : ThreadPart D L). capped (ledger + p.faults)) one.part_is) (failed_is ∙ ap (λ r. capped (failed + count_if (is_failed_end r))) same.1)
      (starved_is ∙ ap (λ r. capped (starved + count_if (is_starved_end r))) same.1)

  -- all parts
  pub unlists_all : (before : List (ThreadPart D L)) {parts turned left : List (ThreadPart D L)} {ledger : ℕ} (part : ThreadPart D L) (tended : Tended D L)
      → UnlistsSo parts left tended.doors.items ledger tended.door_faults tended.door_memory → left ≡ [] → turned ≡ reverse parts → turned ≡ before ++ part ∷ []
      → part.task ≡ task.Link tended.link (Some tended.link_end) → tended.faults ≡ capped (ledger + part.faults) → IsUnlisted parts tended
  unlists_all before {ledger = ledger} part tended unlists none turned popped task_is ledger_is = λ rows link is.
      let so_far = unlists rows link is in
      let last = link_taken before part rows link turned popped is in
      let same = link_is_row part.task tended.link tended.link_end link task_is (ap (λ (p : ThreadPart D L). p.task) last.1) in
      let all : so_far.done ≡ rows = sym (so_far.rows_are ∙ ap (λ (l : List (DoorRow D)). so_far.done ++ l) (no_rows so_far.rest (sym none ∙ so_far.left_are)) ∙ append-nil so_far.done) in
      record {
        doors_are = so_far.doors_are ∙ ap (λ (l : List (DoorRow D)). map (λ r. r.door) l) all;
        link_is = same.0;
        end_is = same.1;
        faults_are = ledger_is ∙ ap (λ (p : ThreadPart D L). capped (ledger + p.faults)) last.1 ∙ capped_both (faults_in so_far.done) ledger link.faults so_far.ledger_faults_are
            ∙ ap (λ (l : List (DoorRow D)). capped (link.faults + faults_in l)) all;
        door_faults_are = so_far.door_faults_are ∙ ap (λ (l : List (DoorRow D)). capped (failed_in (map (λ r. r.reason) l))) all;
        door_memory_is = so_far.door_memory_is ∙ ap (λ (l : List (DoorRow D)). capped (starved_in (map (λ r. r.reason) l))) all;
      }

-- so the link's part is the first that is taken apart
pub link_task : {D L : Type 0} (left : List (ThreadPart D L)) {parts turned : List (ThreadPart D L)} (part : ThreadPart D L) → HasDoneTasks parts → turned ≡ reverse parts
    → turned ≡ left ++ part ∷ [] → IsLinkTask part.task
link_task {D} {L} left part whole turned popped =
    let same = link_taken left part whole.rows whole.link turned popped whole.parts_are in
    subst (λ (p : ThreadPart D L). IsLinkTask p.task) (sym same.1) tt

-- a part for the link, and one for each door
pub listed_long : {D L : Type 0} (link : L) (doors : List D) (parts : List (ThreadPart D L)) → parts ≡ parts_of link doors → length parts ≡ length doors + 1
listed_long {D} {L} link doors parts are =
    let l = ap (λ (s : List (ThreadPart D L)). length s) are in
    let m : length (map (λ (door : D). door_part {D = D} {L = L} door) doors) ≡ length doors = length-map doors (λ door. door_part door) in
    omega (arith, l, m)
