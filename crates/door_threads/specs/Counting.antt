-- How calls and doors are counted that failed (this project's own).
use Rattle.std.specs.Prelude.{ℕ, ◌+◌, ◌-◌, ◌^◌, min, Bool, true, false, if◌then◌else◌, List, [], ◌∷◌}
use Rattle.door_threads.specs.declared.working.DoorEnd.{DoorEnd}
use Rattle.door_threads.specs.declared.working.DoorEnd.TheVariants as end
use Rattle.door_threads.specs.Asking.{is_failed_end}

-- a counter stands still at its type's end
abbrev pub capped : ℕ → ℕ
capped count = min count (2 ^ 64 - 1)

abbrev pub count_if : Bool → ℕ
count_if is = if is then 1 else 0

-- memory was wanting for a caller
abbrev pub is_starved_end : DoorEnd → Bool
is_starved_end end.Memory = true
is_starved_end _ = false

-- the ends that say that the door failed, and those that say that memory was wanting
abbrev pub failed_in : List DoorEnd → ℕ
failed_in [] = 0
failed_in (reason ∷ reasons) = count_if (is_failed_end reason) + failed_in reasons

abbrev pub starved_in : List DoorEnd → ℕ
starved_in [] = 0
starved_in (reason ∷ reasons) = count_if (is_starved_end reason) + starved_in reasons
