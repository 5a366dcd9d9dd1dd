-- Parts of a link and doors, and the link and the doors of parts (this project's own).
use Rattle.std.specs.Prelude.{◌≡◌, ℕ, ◌+◌, None, Some, List, [], ◌∷◌, map}
use Rattle.session_steps.specs.declared.ends.SessionEnd.{SessionEnd}
use Rattle.door_threads.specs.declared.working.DoorEnd.{DoorEnd}
use Rattle.door_threads.specs.declared.listing.Tended.{Tended}
use Rattle.door_threads.specs.declared.parts.ThreadPart.{ThreadPart}
use Rattle.door_threads.specs.declared.parts.ThreadTask.{ThreadTask}
use Rattle.door_threads.specs.declared.parts.ThreadTask.TheVariants as task
use Rattle.door_threads.specs.Counting.{capped, failed_in, starved_in}

-- a door, and a link, whose work has not begun
abbrev pub door_part : {D L : Type 0} → D → ThreadPart D L
door_part door = record { task = task.Door door None; faults = 0 }

abbrev pub link_part : {D L : Type 0} → L → ThreadPart D L
link_part link = record { task = task.Link link None; faults = 0 }

-- the link, and the doors behind it
abbrev pub parts_of : {D L : Type 0} → L → List D → List (ThreadPart D L)
parts_of link doors = link_part link ∷ map (λ door. door_part door) doors

-- a door whose worker asked no more
pub record DoorRow (D : Type 0) : Type 0 where
  pub door : D
  pub faults : ℕ
  pub reason : DoorEnd

-- a link whose session is over
pub record LinkRow (L : Type 0) : Type 0 where
  pub link : L
  pub faults : ℕ
  pub reason : SessionEnd

abbrev pub door_row_part : {D L : Type 0} → DoorRow D → ThreadPart D L
door_row_part row = record { task = task.Door row.door (Some row.reason); faults = row.faults }

abbrev pub link_row_part : {D L : Type 0} → LinkRow L → ThreadPart D L
link_row_part row = record { task = task.Link row.link (Some row.reason); faults = row.faults }

abbrev pub rows_of : {D L : Type 0} → LinkRow L → List (DoorRow D) → List (ThreadPart D L)
rows_of link rows = link_row_part link ∷ map (λ row. door_row_part row) rows

-- all tasks are done
pub record HasDoneTasks {D L : Type 0} (parts : List (ThreadPart D L)) : Type 0 where
  pub rows : List (DoorRow D)
  pub link : LinkRow L
  pub parts_are : parts ≡ rows_of link rows

abbrev pub IsLinkTask : {D L : Type 0} → ThreadTask D L → Type 0
IsLinkTask (task.Link link (Some reason)) = Unit {0}
IsLinkTask (task.Link link None) = ⊥
IsLinkTask (task.Door door ended) = ⊥

abbrev pub IsAskedTask : {D L : Type 0} → ThreadTask D L → Type 0
IsAskedTask (task.Door door (Some reason)) = Unit {0}
IsAskedTask (task.Door door None) = ⊥
IsAskedTask (task.Link link ended) = ⊥

-- the calls that a fault answered, as the parts counted them
abbrev pub faults_in : {D : Type 0} → List (DoorRow D) → ℕ
faults_in [] = 0
faults_in (row ∷ rows) = row.faults + faults_in rows

-- what came back are the doors and the link of these rows, in their order, and the counts are added
-- up
pub record IsRestored {D L : Type 0} (rows : List (DoorRow D)) (link : LinkRow L)
    (tended : Tended D L) : Type 0 where
  pub doors_are : tended.doors.items ≡ map (λ row. row.door) rows
  pub link_is : tended.link ≡ link.link
  pub end_is : tended.link_end ≡ link.reason
  pub faults_are : tended.faults ≡ capped (link.faults + faults_in rows)
  pub door_faults_are : tended.door_faults ≡ capped (failed_in (map (λ row. row.reason) rows))
  pub door_memory_is : tended.door_memory ≡ capped (starved_in (map (λ row. row.reason) rows))

-- so it is with the rows of which the parts are
abbrev pub IsUnlisted : {D L : Type 0} → List (ThreadPart D L) → Tended D L → Type 0
IsUnlisted {D} {L} parts tended =
    (rows : List (DoorRow D)) (link : LinkRow L) → parts ≡ rows_of link rows
    → IsRestored rows link tended
