-- The accounts of texts, in the order in which they are kept.
use Rattle.std.proofs.Common.{◌≡◌, ℕ, ◌+◌, ◌<◌, ◌||◌, None, Some, nat_lt, suc, zero, get_or, length, subst, arith, Bool, true, false, not, cond, bytes_eq, map, List, [], ◌∷◌, ◌++◌, refl, sym, ap, ◌∙◌}
use Rattle.std.specs.List.{AllByRecursion, list_any, position, position_or_len}
use Rattle.std.proofs.lemmas.Bool.{ltb-false}
use Rattle.std.proofs.lemmas.List.{length-map, map-append}
use Rattle.indexmap.specs.IndexSet.{insert_key}
use Rattle.pool_history.specs.Settling.{with_account}
use Rattle.payouts.specs.Tallies.{account_place, with_newcomer}
use Rattle.payouts.proofs.Placed.{place-most}

module _ {K : Type 0} (f : K → List ℕ) (k : K) where
  pub any-names : (ks : List K) → list_any (bytes_eq (f k)) (map f ks) ≡ list_any (λ x. bytes_eq (f k) (f x)) ks
  any-names [] = refl
  any-names (x ∷ ks) = ap (λ t. bytes_eq (f k) (f x) || t) (any-names ks)

  pub place-names : (ks : List K) → position_or_len (λ x. bytes_eq (f k) (f x)) ks ≡ account_place (map f ks) (f k)
  place-names [] = refl
  place-names (x ∷ ks) = ap (λ n. cond (not (bytes_eq (f k) (f x))) (1 + n) 0) (place-names ks)

  pub names-inserted : (ks : List K) → map f (insert_key (λ x y. bytes_eq (f x) (f y)) ks k) ≡ with_account (f k) (map f ks)
  names-inserted ks = by_test (list_any (λ x. bytes_eq (f k) (f x)) ks) (list_any (bytes_eq (f k)) (map f ks)) (sym (any-names ks)) where
    by_test : (t u : Bool) → t ≡ u → map f (cond t ks (ks ++ k ∷ [])) ≡ cond u (map f ks) (map f ks ++ f k ∷ [])
    by_test true true e = refl
    by_test false false e = map-append f ks (k ∷ [])
    by_test true false e = cc
    by_test false true e = cc

  pub numbers-inserted : (ks : List K) (weights : List ℕ) (is_new : Bool) → is_new ≡ not (list_any (λ x. bytes_eq (f k) (f x)) ks)
      → cond is_new (weights ++ 0 ∷ []) weights ≡ with_newcomer (f k) (map f ks) weights
  numbers-inserted ks weights is_new e =
      by_test is_new (list_any (λ x. bytes_eq (f k) (f x)) ks) e ∙ ap (λ t. cond t weights (weights ++ 0 ∷ [])) (sym (any-names ks))
    where
      by_test : (t u : Bool) → t ≡ not u → cond t (weights ++ 0 ∷ []) weights ≡ cond u weights (weights ++ 0 ∷ [])
      by_test true false e = refl
      by_test false true e = refl
      by_test true true e = cc
      by_test false false e = cc

-- what holds of all holds of the one that is read
pub all-read : {X : Type 0} (f : X → List ℕ) (P : List ℕ → Type 0) (xs : List X) (i : ℕ) (x : X) → AllByRecursion P (map f xs) → i < length xs
    → x ≡ get_or xs i x → P (f x)
all-read f P [] i x all within read = absurd (none within) where
  none : i < 0 → ⊥
  none l = omega (arith, l)
all-read f P (y ∷ xs) zero x all within read = subst (λ z. P (f z)) (sym read) all.0
all-read f P (y ∷ xs) (suc i) x all within read = all-read f P xs i x all.1 below read where
  below : i < length xs
  below = omega (arith, within)

-- the place of a text among the names
place-texts : {X : Type 0} (f : X → List ℕ) (text : List ℕ) (xs : List X) → position_or_len (λ x. bytes_eq text (f x)) xs ≡ account_place (map f xs) text
place-texts f text [] = refl
place-texts f text (x ∷ xs) = ap (λ n. cond (not (bytes_eq text (f x))) (1 + n) 0) (place-texts f text xs)

pub placed-some : {X : Type 0} (f : X → List ℕ) (text : List ℕ) (xs : List X) (place : ℕ) → Some place ≡ position (λ x. bytes_eq text (f x)) xs → place ≡ account_place (map f xs) text
placed-some f text xs place is = by_test (nat_lt (position_or_len (λ x. bytes_eq text (f x)) xs) (length xs)) is ∙ place-texts f text xs where
  by_test : (t : Bool) → Some place ≡ cond t (Some (position_or_len (λ x. bytes_eq text (f x)) xs)) None → place ≡ position_or_len (λ x. bytes_eq text (f x)) xs
  by_test true e = cc
  by_test false e = cc

pub placed-none : {X : Type 0} (f : X → List ℕ) (text : List ℕ) (xs : List X) → None ≡ position (λ x. bytes_eq text (f x)) xs → length xs ≡ account_place (map f xs) text
placed-none f text xs is = by_test (nat_lt (position_or_len (λ x. bytes_eq text (f x)) xs) (length xs)) refl is where
  by_test : (t : Bool) → nat_lt (position_or_len (λ x. bytes_eq text (f x)) xs) (length xs) ≡ t → None ≡ cond t (Some (position_or_len (λ x. bytes_eq text (f x)) xs)) None
      → length xs ≡ account_place (map f xs) text
  by_test true e h = cc
  by_test false e h =
      omega (arith, ltb-false (position_or_len (λ x. bytes_eq text (f x)) xs) (length xs) e, place-texts f text xs, place-most text (map f xs), length-map xs f)
