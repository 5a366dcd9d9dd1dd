use Rattle.std.proofs.Common.{◌≡◌, ℕ, ◌<◌, [], get_or}
use Rattle.stream_programs.proofs.table.Foreseen.find.Given as goal

abbrev pub invariant-lanes : goal.invariant-lanes
invariant-lanes l = (k : ℕ) → k < l.i → get_or l.self-inside.headers k [] ≡ l.header → ⊥
