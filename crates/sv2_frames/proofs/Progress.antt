-- What a splitter takes of the bytes that are left.
use Rattle.std.proofs.Common.{◌≡◌, ◌⊎◌, ℕ, ◌<◌, List, [], length, ap, arith, inl, inr}
use Rattle.std.proofs.lemmas.Bool.{cases_lt}
use Rattle.sv2_frames.specs.Holding.{Holding, IsCutWithin, IsFull}
use Rattle.sv2_frames.proofs.Standing.{full_not_cut}

-- something was taken of what is left
pub some_taken : (holding : Holding) (rest : List ℕ) (count : ℕ) → IsCutWithin holding → 0 < length rest
    → (count ≡ 0 → (rest ≡ []) ⊎ IsFull holding) → 0 < count
some_taken holding rest count cut some none =
    elim (cases_lt 0 count) [
      | inl more ↦ more
      | inr few ↦
          elim (none (omega arith)) [
            | inl nil ↦ omega (arith, some, ap length nil)
            | inr full ↦ absurd (full_not_cut holding full cut)
          ]
    ]
