use Rattle.std.proofs.Common.{◌≡◌, ℕ, zero, suc, ◌<◌, List, [], ◌∷◌, ◌++◌, get_or, slice_index, refl, sym, ap, ◌∙◌, arith}
use Rattle.sha2.specs.Sha256.{padding}
use Rattle.sha256_lanes.specs.Lanes.{lane}
use Rattle.sha256_lanes.proofs.LaneFacts.{at_splat, lane_at}
use Rattle.sha256_lanes.proofs.Words.{padding_80, words_80, words_then}
use Rattle.sha256_lanes.proofs.digests.padded_80.Goals as goal

-- the words of lane l, one by one
abbrev four : ℕ → List (List ℕ) → List ℕ
four l vs =
    slice_index (get_or vs 0 []) l ∷ slice_index (get_or vs 1 []) l
    ∷ slice_index (get_or vs 2 []) l ∷ slice_index (get_or vs 3 []) l ∷ []

four_at : (l : ℕ) (vs : List (List ℕ)) (k : ℕ) → k < 4
    → slice_index (four l vs) k ≡ slice_index (lane l vs) k
four_at l vs zero lt = sym (lane_at l vs 0)
four_at l vs (suc zero) lt = sym (lane_at l vs 1)
four_at l vs (suc (suc zero)) lt = sym (lane_at l vs 2)
four_at l vs (suc (suc (suc zero))) lt = sym (lane_at l vs 3)
four_at l vs (suc (suc (suc (suc k)))) lt = absurd (omega arith)

pub returns : goal.returns
returns c = λ l lt m long words k below.
    let vs = c.args.words in
    ap (λ (ps : List ℕ). slice_index (four l vs ++ ps) k)
    (λ i. (at_splat 0x80000000 l lt).value i ∷ (at_splat 0 l lt).value i ∷ (at_splat 0 l lt).value i ∷ (at_splat 0 l lt).value i ∷ (at_splat 0 l lt).value i ∷ (at_splat 0 l lt).value i ∷ (at_splat 0 l lt).value i ∷ (at_splat 0 l lt).value i ∷ (at_splat 0 l lt).value i ∷ (at_splat 0 l lt).value i ∷ (at_splat 0 l lt).value i ∷ (at_splat 640 l lt).value i ∷ [])
    ∙ words_then m (padding 80) (four l vs) words_80 4 12 long refl (λ j lt4. four_at l vs j lt4 ∙ words j lt4) padding_80 k below
