use Rattle.std.proofs.Common.{ℕ, ◌<◌}
use Rattle.std.specs.List.{Contains}
use Rattle.desk.specs.Closing.{workers_of}
use Rattle.desk.proofs.close.first_missing.Given as goal

abbrev pub invariant-loop-place : goal.invariant-loop-place
invariant-loop-place g l = (w : ℕ) → w < l.place → Contains (workers_of l.passes.items) w
