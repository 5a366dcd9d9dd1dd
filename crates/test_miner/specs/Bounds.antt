-- The limits of the test miner and the script feed (this project's own).
use Rattle.std.specs.Prelude.{ℕ}

-- the longest payload of a frame that is heard, in bytes
abbrev pub most_payload : ℕ
most_payload = 262144

-- how many tries a turn makes at most
abbrev pub tries_a_turn : ℕ
tries_a_turn = 65536
