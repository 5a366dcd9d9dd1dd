-- What a queue of bytes gives (this project's own).
use Rattle.std.specs.Prelude.{◌≡◌, ◌≤◌, ◌<◌, ℕ, true, false, List, [], ◌++◌, length, take}
use Rattle.pool_io.specs.declared.source.Took.{Took}
use Rattle.pool_io.specs.declared.source.Took.TheVariants as took
use Rattle.pool_pairs.specs.declared.pair_link.Queue.{Queue}

-- the bytes that were taken stood at the front; nothing was there where it was idle, and no more will
-- be where it ended
abbrev pub TakesFirst : Queue → Queue → Took → List ℕ → Type 0
TakesFirst old new (took.Bytes n) buffer =
    (0 < n) × (n ≤ length buffer) × (old.bytes.items ≡ take n buffer ++ new.bytes.items)
    × (new.has_ended ≡ old.has_ended)
TakesFirst old new took.Idle buffer = (old.bytes.items ≡ []) × (old.has_ended ≡ false) × (new ≡ old)
TakesFirst old new took.End buffer = (old.bytes.items ≡ []) × (old.has_ended ≡ true) × (new ≡ old)
TakesFirst old new took.Failed buffer = ⊥
