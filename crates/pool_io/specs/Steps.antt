-- A source's turns one byte at a time, and the limits of a reading.
use Rattle.std.specs.Prelude.{ℕ, ◌+◌, ◌≡◌, ◌≤◌, ◌⊎◌, List, [], ◌∷◌, ◌++◌, length, map, Option, Some, None, IfSome}
use Rattle.pool_io.specs.declared.turn.Turn.{Turn}
use Rattle.pool_io.specs.declared.turn.Turn.TheVariants.{Piece, Idle, End}

-- a step of a reading: a byte, or None for an Idle answer
abbrev pub ReadStep : Type 0
ReadStep = Option ℕ

-- the steps of the turns, up to the first End
abbrev pub steps_of : List Turn → List ReadStep
steps_of [] = []
steps_of (Piece bytes ∷ turns) = map Some bytes ++ steps_of turns
steps_of (Idle ∷ turns) = None ∷ steps_of turns
steps_of (End ∷ turns) = []

-- the bytes among the steps
abbrev pub bytes_in : List ReadStep → List ℕ
bytes_in [] = []
bytes_in (Some byte ∷ steps) = byte ∷ bytes_in steps
bytes_in (None ∷ steps) = bytes_in steps

-- how many Idle answers stand in a row at the end of the steps, where n stood before them
abbrev pub idles_after : ℕ → List ReadStep → ℕ
idles_after n [] = n
idles_after n (Some byte ∷ steps) = idles_after 0 steps
idles_after n (None ∷ steps) = idles_after (n + 1) steps

-- the most Idle answers in a row, and the most bytes, that a reading takes
pub record Bounds : Type 0 where
  pub idle_turns : ℕ
  pub bytes : ℕ

-- the steps end with so many Idle answers in a row
abbrev pub IsIdleOut : Bounds → List ReadStep → Type 0
IsIdleOut bounds steps = bounds.idle_turns ≤ idles_after 0 steps

-- the steps have so many bytes
abbrev pub IsBytesOut : Bounds → List ReadStep → Type 0
IsBytesOut bounds steps = bounds.bytes ≤ length (bytes_in steps)

-- the steps reach a limit
abbrev pub IsAtLimit : Bounds → List ReadStep → Type 0
IsAtLimit bounds steps = IsIdleOut bounds steps ⊎ IsBytesOut bounds steps

-- no shorter front of these steps reaches a limit
abbrev pub IsFreeBefore : Bounds → List ReadStep → Type 0
IsFreeBefore bounds steps = (front : List ReadStep) (step : ReadStep) (rest : List ReadStep)
    → steps ≡ front ++ step ∷ rest → IsAtLimit bounds front → ⊥

-- neither these steps nor a shorter front of them reach a limit
abbrev pub IsFree : Bounds → List ReadStep → Type 0
IsFree bounds steps = IsFreeBefore bounds steps × (IsAtLimit bounds steps → ⊥)

-- between these turns to come and those, where the source tells them, it brought these steps
abbrev pub BringsSteps : Option (List Turn) → Option (List Turn) → List ReadStep → Type 0
BringsSteps before now steps = IfSome before (λ turns. (left : List Turn) × (now ≡ Some left)
    × (steps_of turns ≡ steps ++ steps_of left))
