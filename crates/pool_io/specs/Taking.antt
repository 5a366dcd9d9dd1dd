-- Where a source in memory stands in its turns.
use Rattle.std.specs.Prelude.{ℕ, zero, suc, ◌<◌, List, [], ◌∷◌, length, drop}
use Rattle.pool_io.specs.declared.turn.Turn.{Turn}
use Rattle.pool_io.specs.declared.turn.Turn.TheVariants.{Piece, Idle, End}

-- the turns that are left where so many bytes of the first one's piece were taken
abbrev pub turns_from : ℕ → List Turn → List Turn
turns_from zero turns = turns
turns_from (suc n) [] = []
turns_from (suc n) (Piece bytes ∷ turns) = Piece (drop (suc n) bytes) ∷ turns
turns_from (suc n) (Idle ∷ turns) = Idle ∷ turns
turns_from (suc n) (End ∷ turns) = End ∷ turns

-- where bytes were taken, the first turn is a piece that has more
abbrev pub HasMore : ℕ → List Turn → Type 0
HasMore zero turns = Unit {0}
HasMore (suc n) [] = ⊥
HasMore (suc n) (Piece bytes ∷ turns) = suc n < length bytes
HasMore (suc n) (Idle ∷ turns) = ⊥
HasMore (suc n) (End ∷ turns) = ⊥
