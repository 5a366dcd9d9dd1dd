use Rattle.std.proofs.Common.{◌≡◌, ℕ, ◌<◌, ◌*◌}
use Rattle.sha2.specs.Sha256.{padding, rounds, schedule}
use Rattle.sha256_lanes.specs.Lanes.{lane}
use Rattle.sha256_lanes.proofs.padding.compress_padding.Given as goal

abbrev pub invariant-turns : goal.invariant-turns
invariant-turns l = (k : ℕ) → k < 4 → lane k l.v ≡ rounds (lane k l.state) (schedule (padding 64) 48) (8 * l.turn)
