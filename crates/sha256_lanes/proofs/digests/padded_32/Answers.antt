use Rattle.std.proofs.Common.{◌≡◌, ℕ, zero, suc, ◌<◌, List, [], ◌∷◌, ◌++◌, get_or, slice_index, refl, sym, ap, ◌∙◌, arith}
use Rattle.sha2.specs.Sha256.{padding}
use Rattle.sha256_lanes.specs.Lanes.{lane}
use Rattle.sha256_lanes.proofs.LaneFacts.{at_splat, lane_at}
use Rattle.sha256_lanes.proofs.Words.{padding_32, words_32, words_then}
use Rattle.sha256_lanes.proofs.digests.padded_32.Goals as goal

-- the words of lane l, one by one
abbrev eight : ℕ → List (List ℕ) → List ℕ
eight l vs =
    slice_index (get_or vs 0 []) l ∷ slice_index (get_or vs 1 []) l
    ∷ slice_index (get_or vs 2 []) l ∷ slice_index (get_or vs 3 []) l
    ∷ slice_index (get_or vs 4 []) l ∷ slice_index (get_or vs 5 []) l
    ∷ slice_index (get_or vs 6 []) l ∷ slice_index (get_or vs 7 []) l ∷ []

eight_at : (l : ℕ) (vs : List (List ℕ)) (k : ℕ) → k < 8
    → slice_index (eight l vs) k ≡ slice_index (lane l vs) k
eight_at l vs zero lt = sym (lane_at l vs 0)
eight_at l vs (suc zero) lt = sym (lane_at l vs 1)
eight_at l vs (suc (suc zero)) lt = sym (lane_at l vs 2)
eight_at l vs (suc (suc (suc zero))) lt = sym (lane_at l vs 3)
eight_at l vs (suc (suc (suc (suc zero)))) lt = sym (lane_at l vs 4)
eight_at l vs (suc (suc (suc (suc (suc zero))))) lt = sym (lane_at l vs 5)
eight_at l vs (suc (suc (suc (suc (suc (suc zero)))))) lt = sym (lane_at l vs 6)
eight_at l vs (suc (suc (suc (suc (suc (suc (suc zero))))))) lt = sym (lane_at l vs 7)
eight_at l vs (suc (suc (suc (suc (suc (suc (suc (suc k)))))))) lt = absurd (omega arith)

pub returns : goal.returns
returns c = λ l lt m long words k below.
    let vs = c.args.words in
    ap (λ (ps : List ℕ). slice_index (eight l vs ++ ps) k)
    (λ i. (at_splat 0x80000000 l lt).value i ∷ (at_splat 0 l lt).value i ∷ (at_splat 0 l lt).value i ∷ (at_splat 0 l lt).value i ∷ (at_splat 0 l lt).value i ∷ (at_splat 0 l lt).value i ∷ (at_splat 0 l lt).value i ∷ (at_splat 256 l lt).value i ∷ [])
    ∙ words_then m (padding 32) (eight l vs) words_32 8 8 long refl (λ j lt8. eight_at l vs j lt8 ∙ words j lt8) padding_32 k below
