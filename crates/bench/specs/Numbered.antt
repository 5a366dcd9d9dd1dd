-- The messages and the ids that the benchmark makes of numbers (this project's own).
use Rattle.std.specs.Prelude.{ℕ, ◌+◌, ◌-◌, List, [], ◌∷◌, ◌++◌, length, replicate, set}
use Rattle.std.specs.Int.{w64, to_le_bytes}

-- the message of this length for a number: its eight bytes, low byte first, and zeros
abbrev pub message_of : ℕ → ℕ → List ℕ
message_of len number = to_le_bytes w64 number ++ replicate (len - 8) 0

-- the messages for a number and the three behind it
abbrev pub four_from : ℕ → ℕ → List (List ℕ)
four_from len number =
    message_of len number
    ∷ message_of len (number + 1)
    ∷ message_of len (number + 2)
    ∷ message_of len (number + 3)
    ∷ []

-- the ids with the number's in place of their last
abbrev pub ending_in : List (List ℕ) → ℕ → List (List ℕ)
ending_in ids number = set ids (length ids - 1) (message_of 32 number)
