-- What an operator leaves in lane l of vectors of four lanes.
use Rattle.std.proofs.Common.{◌≡◌, ℕ, ◌<◌, List, [], ◌∷◌, length, get_or, slice_index, map, refl, sym, ap, ◌∙◌, arith, zero, suc}
use Rattle.std.proofs.lemmas.Simd.{get_or-zip2, length-zip2, get_or-replicate}
use Rattle.std.proofs.lemmas.List.{get_or-map, length-map}
use Rattle.sha256_lanes.specs.Lanes.{lane}
use lib.Lanes.{zip2}

-- v has four lanes, and lane l is x
pub record IsAt (v : List ℕ) (l x : ℕ) : Type 0 where
  pub four : length v ≡ 4
  pub value : slice_index v l ≡ x

pub at_operator : (f : ℕ → ℕ → ℕ) {a b : List ℕ} {l x y : ℕ} → l < 4 → IsAt a l x → IsAt b l y → IsAt (zip2 f a b) l (f x y)
at_operator f {a = a} {b = b} {l = l} {x = x} {y = y} lt p q = record {
  four = length-zip2 f a b (p.four ∙ sym q.four) ∙ p.four;
  value = get_or-zip2 f a b l 0 0 0 (omega (arith, p.four)) (omega (arith, q.four)) ∙ (λ i. f (p.value i) (q.value i));
}

pub at_not : (f : ℕ → ℕ) {a : List ℕ} {l x : ℕ} → l < 4 → IsAt a l x → IsAt (map f a) l (f x)
at_not f {a = a} {l = l} {x = x} lt p = record {
  four = length-map a f ∙ p.four;
  value = get_or-map f a l 0 0 (omega (arith, p.four)) ∙ ap f p.value;
}

pub at_splat : (k l : ℕ) → l < 4 → IsAt (k ∷ k ∷ k ∷ k ∷ []) l k
at_splat k l lt = record { four = refl; value = get_or-replicate 4 l k 0 lt }

pub at_self : (a : List ℕ) (l : ℕ) → length a ≡ 4 → IsAt a l (slice_index a l)
at_self a l e = record { four = e; value = refl }

pub at_is : (a : List ℕ) (l x : ℕ) → length a ≡ 4 → slice_index a l ≡ x → IsAt a l x
at_is a l x e h = record { four = e; value = h }

pub lane_at : (l : ℕ) (vs : List (List ℕ)) (i : ℕ) → slice_index (lane l vs) i ≡ slice_index (get_or vs i []) l
lane_at l [] i = refl
lane_at l (v ∷ vs) zero = refl
lane_at l (v ∷ vs) (suc i) = lane_at l vs i

-- what is said of each of the four lanes is said of all
pub by_lane : (P : ℕ → Type 0) → P 0 → P 1 → P 2 → P 3 → (l : ℕ) → l < 4 → P l
by_lane P p q r s zero lt = p
by_lane P p q r s (suc zero) lt = q
by_lane P p q r s (suc (suc zero)) lt = r
by_lane P p q r s (suc (suc (suc zero))) lt = s
by_lane P p q r s (suc (suc (suc (suc l)))) lt = absurd (omega arith)
