-- Where a partner stands after a turn (this project's own).
use Rattle.std.specs.Prelude.{ℕ, List, Option, None, Some}
use Rattle.pool_io.specs.declared.turn.Turn.{Turn}

-- it goes on, or it has ended so
abbrev pub HasTakenOrEnded :
    {S E : Type 0} → (S → List Turn → List ℕ → Type 0) → (S → List Turn → List ℕ → E → Type 0)
    → S → List Turn → List ℕ → Option E → Type 0
HasTakenOrEnded has_taken has_ended partner past told None = has_taken partner past told
HasTakenOrEnded has_taken has_ended partner past told (Some end) = has_ended partner past told end
