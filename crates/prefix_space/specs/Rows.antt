-- Rows of bits, a bit for each byte (this project's own).
use Rattle.std.specs.Prelude.{ℕ, ◌/◌, ◌%◌, Bool, nat_eq, slice_index}
use Rattle.std.specs.Int.{bit_at}
use Rattle.std.specs.List.{list_all, list_any, range_with_len}
use Rattle.prefix_space.specs.declared.rows.Row.{Row}

-- a test passes at each byte, or at one
unfoldable pub all_bytes : (ℕ → Bool) → Bool
all_bytes test = list_all test (range_with_len 0 256)

unfoldable pub any_byte : (ℕ → Bool) → Bool
any_byte test = list_any test (range_with_len 0 256)

-- the byte's bit is set
abbrev pub has_bit : Row → ℕ → Bool
has_bit row byte = nat_eq (bit_at (slice_index row.words (byte / 64)) (byte % 64)) 1
