-- What a line is, from what a reader says.
use Rattle.std.proofs.Common.{◌≡◌, ℕ, List, Some, None, IsUtf8, refl, inl, inr}
use Rattle.std.proofs.lemmas.Bool.{cases_Bool}
use Rattle.std.specs.Str.{is_utf8}
use Rattle.std.proofs.lemmas.Str.{IsUtf8-from_is_utf8, is_utf8-from_IsUtf8}
use Rattle.serde_json.specs.Data.{Data}
use Rattle.serde_json.specs.Read.{read}
use Rattle.v1_lines.specs.Requests.{line_value}

pub line_read : (line : List ℕ) (value : Data) → IsUtf8 line → read line ≡ Some value → line_value line ≡ Some value
line_read line value text said = rw (is_utf8-from_IsUtf8 line text) said

pub line_refused : (line : List ℕ) → (IsUtf8 line → read line ≡ None) → line_value line ≡ None
line_refused line none = elim (cases_Bool (is_utf8 line)) [
  | inl text ↦ rw text (none (IsUtf8-from_is_utf8 line text))
  | inr other ↦ rw other refl
]
