-- What a command over a stream owes for the bytes of its input (this project's own).
use Rattle.std.specs.Prelude.{ℕ, ◌^◌, ◌≡◌, ◌<◌, ◌≤◌, List, [], ◌++◌, length}

-- a command's duty: which text it owes for which bytes
pub record Duty : Type 1 where
  -- the text for these bytes, where the input ends well behind them
  pub Whole : List ℕ → List ℕ → Type 0
  -- the text for these bytes, which are refused whatever follows them
  pub Refused : List ℕ → List ℕ → Type 0
  -- the text for these bytes, which are refused since the input ends behind them
  pub Cut : List ℕ → List ℕ → Type 0
  -- the text so far for these bytes, where more may come
  pub SoFar : List ℕ → List ℕ → Type 0

-- nothing is left of the bytes
abbrev pub IsNothing : List ℕ → Type 0
IsNothing rest = rest ≡ []

-- Nothing is owed so far for nothing, and no bytes have two verdicts: what is refused isn't whole
-- and doesn't go on, whatever follows, and what is whole at its end isn't cut.
pub record IsSoundDuty (duty : Duty) : Type 0 where
  pub nothing : duty.SoFar [] []
  pub whole_or_refused : (bytes more text other : List ℕ) → duty.Whole (bytes ++ more) text
      → duty.Refused bytes other → ⊥
  pub so_far_or_refused : (bytes more text other : List ℕ) → duty.SoFar (bytes ++ more) text
      → duty.Refused bytes other → ⊥
  pub whole_or_cut : (bytes text other : List ℕ) → duty.Whole bytes text → duty.Cut bytes other → ⊥

-- Within a piece comes what refuses the input: where the bytes before it were read, with the text
-- before the call, the text after the call is owed for the bytes up to there.
pub record RefusesWithin (HasRead Refused : List ℕ → List ℕ → Type 0) (piece old new : List ℕ) :
    Type 0 where
  pub front : List ℕ
  pub rest : List ℕ
  pub split : piece ≡ front ++ rest
  pub some : 0 < length front
  pub owed : (bytes text : List ℕ) → length (bytes ++ piece) ≤ 2 ^ 40 → HasRead bytes (text ++ old)
      → Refused (bytes ++ front) (text ++ new)
