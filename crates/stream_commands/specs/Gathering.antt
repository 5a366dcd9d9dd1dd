-- What is owed for the bytes of an input that is gathered: just these bytes, up to a limit (this
-- project's own).
use Rattle.std.specs.Prelude.{ℕ, ◌≡◌, ◌<◌, ◌≤◌, List, length}
use Rattle.stream_commands.specs.Duties.{Duty}

-- the bytes themselves, of which there are at most so many
pub record IsGathered (most : ℕ) (bytes text : List ℕ) : Type 0 where
  pub same : text ≡ bytes
  pub short : length bytes ≤ most

-- Input is whole where it has at most so many bytes, and refused where it has more; its end alone
-- refuses nothing.
abbrev pub gathering_duty : ℕ → Duty
gathering_duty most = record {
  Whole = IsGathered most;
  Refused = λ bytes text. most < length bytes;
  Cut = λ bytes text. ⊥;
  SoFar = IsGathered most;
}
