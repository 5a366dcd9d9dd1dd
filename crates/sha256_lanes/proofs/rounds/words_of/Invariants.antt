use Rattle.std.proofs.Common.{◌≡◌, ℕ, ◌+◌, ◌*◌, ◌<◌, [], length, slice_index, get_or}
use Rattle.sha2.specs.Sha256.{word_at}
use Rattle.sha256_lanes.proofs.rounds.words_of.Given as goal

abbrev pub invariant-load : goal.invariant-load
invariant-load g l = (length l.words ≡ g.row.W)
    × ((j : ℕ) → j < 4 → (k : ℕ) → k < l.i
    → slice_index (get_or l.words k []) j ≡ word_at (get_or l.messages j []) (l.from + 4 * k))
    × (0 < l.i → (j : ℕ) → j < 4 → length (get_or l.messages j []) ≡ g.row.N)
