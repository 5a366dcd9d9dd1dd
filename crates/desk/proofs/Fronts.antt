-- Fronts of lists.
use Rattle.std.proofs.Common.{◌≡◌, ◌<◌, ◌≤◌, Bool, true, false, cond, List, [], ◌∷◌, ◌++◌, length, refl, sym, ap, ◌∙◌, append_assoc, arith}
use Rattle.std.proofs.lemmas.Bool.{false_from_ne_true, ltb-true}
use Rattle.std.proofs.lemmas.List.{append-nil}
use Rattle.std.specs.Prelude.{nat_lt}
use Rattle.pool_base.specs.Lists.{Begins}
use Rattle.desk.specs.Views.{longer}

module _ {X : Type 0} where
  pub begins-itself : (xs : List X) → Begins xs xs
  begins-itself xs = ([], append-nil xs)

  pub begins-nothing : (xs : List X) → Begins [] xs
  begins-nothing xs = (xs, refl)

  pub begins-more : (front whole added : List X) → Begins front whole → Begins front (whole ++ added)
  begins-more front whole added h = (h.0 ++ added, sym (append_assoc front h.0 added) ∙ ap (λ (l : List X). l ++ added) h.1)

  pub begins-trans : (one two three : List X) → Begins one two → Begins two three → Begins one three
  begins-trans one two three h k =
      (h.0 ++ k.0, sym (append_assoc one h.0 k.0) ∙ ap (λ (l : List X). l ++ k.0) h.1 ∙ k.1)

  -- of two fronts the shorter begins the other
  pub begins-shorter : (one other whole : List X) → Begins one whole → Begins other whole → length one ≤ length other → Begins one other
  begins-shorter [] other whole h k le = (other, refl)
  begins-shorter (x ∷ xs) [] whole h k le = absurd (omega arith)
  begins-shorter (x ∷ xs) (y ∷ ys) whole h k le =
      let e : x ∷ (xs ++ h.0) ≡ y ∷ (ys ++ k.0) = h.1 ∙ sym k.1 in
      let first : x ≡ y = cc in
      let rest : xs ++ h.0 ≡ ys ++ k.0 = cc in
      let r : Begins xs ys = begins-shorter xs ys (ys ++ k.0) (h.0, rest) (k.0, refl) (omega arith) in
      (r.0, λ i. first i ∷ r.1 i)

  longer-by : (one other whole : List X) (b : Bool) → (b ≡ true → length one < length other) → (b ≡ false → length other ≤ length one)
      → Begins one whole → Begins other whole
      → Begins (cond b other one) whole × Begins one (cond b other one) × Begins other (cond b other one)
  longer-by one other whole true less more h k = (k, begins-shorter one other whole h k (let l = less refl in omega arith), begins-itself other)
  longer-by one other whole false less more h k = (h, begins-itself one, begins-shorter other one whole k h (more refl))

  pub longer-begins : (one other whole : List X) → Begins one whole → Begins other whole
      → Begins (longer one other) whole × Begins one (longer one other) × Begins other (longer one other)
  longer-begins one other whole h k =
      longer-by one other whole (nat_lt (length one) (length other)) (λ e. grind (arith, e)) (λ e. grind (arith, e)) h k

  not-longer : (xs : List X) (b : Bool) → b ≡ false → cond b [] xs ≡ xs
  not-longer xs b e = ap (λ (c : Bool). cond c [] xs) e

  pub longer-nothing : (xs : List X) → longer xs [] ≡ xs
  longer-nothing xs = not-longer xs (nat_lt (length xs) 0) (false_from_ne_true (nat_lt (length xs) 0) (λ e. let l = ltb-true (length xs) 0 e in omega arith))
