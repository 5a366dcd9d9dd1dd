-- Difficulties of Stratum V1, and the classes that they stand for (this project's own).
use Rattle.std.specs.Prelude.{ℕ, zero, suc, ◌+◌, ◌-◌, ◌^◌, ◌&&◌, min, if◌then◌else◌, Option, None, Some, List, nat_le}
use Rattle.std.specs.Option.{option_and_then}
use Rattle.serde_json.specs.Data.{Data}
use Rattle.serde_json.specs.Find.{as_number, as_u64}
use Rattle.pool_history.specs.Refusing.{class_of_target}

-- the difficulty of a class over the base class: from 1 to 2^63
abbrev pub difficulty_of_class : ℕ → ℕ → ℕ
difficulty_of_class base class = 2 ^ min (class - base) 63

-- the difficulty of a target
abbrev pub difficulty_of : ℕ → List ℕ → ℕ
difficulty_of base target = difficulty_of_class base (class_of_target target)

-- the greatest exponent, up to this one, whose power of two is at most a number
unfoldable pub exponent_up_to : ℕ → ℕ → ℕ
exponent_up_to zero number = 0
exponent_up_to (suc most) number =
    if nat_le (2 ^ suc most) number then suc most else exponent_up_to most number

-- the class of a difficulty that is asked for
abbrev pub class_of_difficulty : ℕ → ℕ → ℕ
class_of_difficulty base difficulty = min (base + exponent_up_to 63 difficulty) 60

abbrev pub if_in_range : ℕ → Option ℕ
if_in_range number = if nat_le 1 number && nat_le number (2 ^ 60) then Some number else None

-- a difficulty that may be asked for: a whole number from 1 to 2^60
abbrev pub asked_difficulty : Option Data → Option ℕ
asked_difficulty value =
    option_and_then if_in_range (option_and_then as_u64 (option_and_then as_number value))
