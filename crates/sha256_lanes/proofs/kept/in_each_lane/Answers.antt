use Rattle.std.proofs.Common.{◌≡◌, ℕ, List, [], ◌∷◌, length, slice_index, refl, arith, ◌∙◌}
use Rattle.sha256_lanes.proofs.LaneFacts.{at_splat}
use Rattle.sha256_lanes.proofs.kept.in_each_lane.Goals as goal

-- a list of eight is its eight items
eight_items : (s : List ℕ) → length s ≡ 8
    → (slice_index s 0 ∷ slice_index s 1 ∷ slice_index s 2 ∷ slice_index s 3 ∷ slice_index s 4
    ∷ slice_index s 5 ∷ slice_index s 6 ∷ slice_index s 7 ∷ []) ≡ s
eight_items [] long = absurd (omega arith)
eight_items (a ∷ []) long = absurd (omega arith)
eight_items (a ∷ b ∷ []) long = absurd (omega arith)
eight_items (a ∷ b ∷ c ∷ []) long = absurd (omega arith)
eight_items (a ∷ b ∷ c ∷ d ∷ []) long = absurd (omega arith)
eight_items (a ∷ b ∷ c ∷ d ∷ e ∷ []) long = absurd (omega arith)
eight_items (a ∷ b ∷ c ∷ d ∷ e ∷ f ∷ []) long = absurd (omega arith)
eight_items (a ∷ b ∷ c ∷ d ∷ e ∷ f ∷ g ∷ []) long = absurd (omega arith)
eight_items (a ∷ b ∷ c ∷ d ∷ e ∷ f ∷ g ∷ h ∷ []) long = refl
eight_items (a ∷ b ∷ c ∷ d ∷ e ∷ f ∷ g ∷ h ∷ i ∷ s) long = absurd (omega arith)

pub returns : goal.returns
returns c = λ l lt.
    let s = c.args.state.now in
    (λ i. (at_splat (slice_index s 0) l lt).value i ∷ (at_splat (slice_index s 1) l lt).value i ∷ (at_splat (slice_index s 2) l lt).value i ∷ (at_splat (slice_index s 3) l lt).value i ∷ (at_splat (slice_index s 4) l lt).value i ∷ (at_splat (slice_index s 5) l lt).value i ∷ (at_splat (slice_index s 6) l lt).value i ∷ (at_splat (slice_index s 7) l lt).value i ∷ [])
    ∙ eight_items s c.told-state
