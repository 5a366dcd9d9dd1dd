-- Numbers in hexadecimal digits.
use Rattle.std.specs.Prelude.{ℕ, ◌+◌, ◌*◌, ◌==◌, ◌&&◌, nat_le, false, if◌then◌else◌, Option, None, Some, List, [], ◌∷◌, length}
use Rattle.std.specs.Option.{option_and_then}
use Rattle.std.specs.Int.{to_be_bytes, w32}
use Rattle.std.specs.Fmt.{digits}
use Rattle.hex.specs.Hex.{encode_lower, hex_digit_value}

-- digits in either case, the most significant first, behind those that said so much
abbrev pub number_behind : ℕ → List ℕ → Option ℕ
number_behind high [] = Some high
number_behind high (digit ∷ more) =
    option_and_then (λ value. number_behind (16 * high + value) more) (hex_digit_value digit)

-- a number of 1 to 8 digits
abbrev pub hex_number : List ℕ → Option ℕ
hex_number text =
    if nat_le 1 (length text) && nat_le (length text) 8 then number_behind 0 text else None

-- one of eight digits
abbrev pub hex_word : List ℕ → Option ℕ
hex_word text = if length text == 8 then hex_number text else None

-- eight lower case digits, the most significant first
abbrev pub word_text : ℕ → List ℕ
word_text word = encode_lower (to_be_bytes w32 word)

-- lower case digits without leading zeros
abbrev pub number_text : ℕ → List ℕ
number_text number = digits 16 false number
