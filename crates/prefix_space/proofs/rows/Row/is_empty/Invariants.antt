use Rattle.std.proofs.Common.{◌≡◌, ℕ, ◌*◌, ◌<◌, false}
use Rattle.prefix_space.specs.Rows.{has_bit}
use Rattle.prefix_space.proofs.rows.Row.is_empty.Given as goal

abbrev pub invariant-loop-at : goal.invariant-loop-at
invariant-loop-at g l = (byte : ℕ) → byte < l.at * 64 → has_bit l.self byte ≡ false
