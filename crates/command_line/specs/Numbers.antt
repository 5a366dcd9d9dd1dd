-- Numbers among the words of a command line.
use Rattle.std.specs.Prelude.{ℕ, ◌≡◌, ◌≢◌, ◌⊎◌, List, [], ◌∷◌, slice_index}
use Rattle.std.specs.Str.Parse.{IsNumeral, digits_value}

-- `0`, or digits without a leading zero
pub record IsNumber (text : List ℕ) (n : ℕ) : Type 0 where
  pub digits : IsNumeral 10 text
  pub plain : (text ≡ 48 ∷ []) ⊎ (slice_index text 0 ≢ 48)
  pub value : digits_value 10 text ≡ n
