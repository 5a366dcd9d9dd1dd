-- How calls are counted that the keeper's fault answered (this project's own).
use Rattle.std.specs.Prelude.{ℕ, ◌+◌, List, [], ◌∷◌}
use Rattle.pool_history.specs.Calls.{PoolCall, has_keeper_failed}
pub use Rattle.door_threads.specs.Counting.{capped, count_if, failed_in, is_starved_end, starved_in}

-- the calls that the keeper's fault answered
abbrev pub faulted_in : List PoolCall → ℕ
faulted_in [] = 0
faulted_in (call ∷ calls) = count_if (has_keeper_failed call.outcome) + faulted_in calls
