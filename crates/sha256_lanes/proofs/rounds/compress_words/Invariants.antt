use Rattle.std.proofs.Common.{ℕ, ◌<◌, List, ◌*◌}
use Rattle.sha2.specs.Sha256.{IsRoundsAt}
use Rattle.sha256_lanes.specs.Lanes.{AreWords, lane}
use Rattle.sha256_lanes.proofs.rounds.compress_words.Given as goal

abbrev pub invariant-schedule : goal.invariant-schedule
invariant-schedule l = (k : ℕ) → k < 4 → (b : List ℕ) → AreWords b (lane k l.fn.words) → IsRoundsAt b (lane k l.state) (lane k l.w) (lane k l.v) (16 * l.turn)
