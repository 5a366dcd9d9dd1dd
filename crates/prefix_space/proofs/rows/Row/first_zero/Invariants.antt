use Rattle.std.proofs.Common.{◌≡◌, ℕ, ◌+◌, ◌*◌, ◌<◌, ◌≤◌, true}
use Rattle.prefix_space.specs.Rows.{has_bit}
use Rattle.prefix_space.proofs.rows.Row.first_zero.Given as goal

abbrev pub invariant-loop-at : goal.invariant-loop-at
invariant-loop-at g l = record {
  full : (byte : ℕ) → byte < l.at * 64 → has_bit l.self byte ≡ true;
  cost : l.steps ≤ l.fn.steps + l.at;
}
