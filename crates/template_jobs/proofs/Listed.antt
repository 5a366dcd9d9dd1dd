-- What is found, and what is dropped, in lists of jobs.
use Rattle.std.proofs.Common.{◌≡◌, ℕ, ◌+◌, ◌-◌, ◌<◌, ◌≤◌, Bool, true, false, cond, None, Some, List, [], ◌∷◌, ◌++◌, length, drop, get_or, refl, ap, sym, ◌∙◌, arith, length-append, length-drop}
use Rattle.std.proofs.lemmas.Bool.{ltb-false, ltb-true}
use Rattle.std.proofs.lemmas.List.Folds.{find_at}
use Rattle.std.proofs.lemmas.Option.{slice_get-get_or, slice_get_past}
use Rattle.std.specs.List.{position_or_len, remove}
use Rattle.pool_history.specs.Jobs.{last}
use Rattle.std.specs.Prelude.{find, nat_lt, position}

position-first : (b : Bool) (n at : ℕ) → cond b (Some n) None ≡ Some at → (b ≡ true) × (n ≡ at)
position-first true n at h = (refl, cc)
position-first false n at h = absurd cc

-- what stands at the first place that passes is what is found
pub found-at : {X : Type 0} (p : X → Bool) (xs : List X) (at : ℕ) (x : X) → position p xs ≡ Some at → x ≡ get_or xs at x → find p xs ≡ Some x
found-at p xs at x h is =
    let f = position-first (nat_lt (position_or_len p xs) (length xs)) (position_or_len p xs) at h in
    find_at p xs ∙ slice_get-get_or xs (position_or_len p xs) x (ltb-true (position_or_len p xs) (length xs) f.0)
    ∙ ap (λ n. Some (get_or xs n x)) f.1 ∙ ap Some (sym is)

position-none : (b : Bool) (n : ℕ) → cond b (Some n) None ≡ None → b ≡ false
position-none true n h = absurd cc
position-none false n h = refl

-- where none passes, none is found
pub found-none : {X : Type 0} (p : X → Bool) (xs : List X) → position p xs ≡ None → find p xs ≡ None
found-none p xs h =
    find_at p xs ∙ slice_get_past xs (position_or_len p xs) (ltb-false (position_or_len p xs) (length xs)
    (position-none (nat_lt (position_or_len p xs) (length xs)) (position_or_len p xs) h))

-- one more than the most: the first is dropped
pub first-dropped : {X : Type 0} (most : ℕ) (xs : List X) → most < length xs → length xs ≤ most + 1 → remove xs 0 ≡ last most xs
first-dropped most xs more few = ap (λ n. drop n xs) (one (length xs) most more few) where
  one : (n m : ℕ) → m < n → n ≤ m + 1 → 1 ≡ n - m
  one n m a b = omega (arith, a, b)

pub none-dropped : {X : Type 0} (most : ℕ) (xs : List X) → length xs ≤ most → xs ≡ last most xs
none-dropped most xs few = ap (λ n. drop n xs) (none (length xs) most few) where
  none : (n m : ℕ) → n ≤ m → 0 ≡ n - m
  none n m a = omega (arith, a)

pub last-few : {X : Type 0} (most : ℕ) (xs : List X) → length (last most xs) ≤ most
last-few most xs = omega (arith, length-drop (length xs - most) xs)

-- a list and one more
pub one-more : {X : Type 0} (xs : List X) (x : X) → length (xs ++ x ∷ []) ≡ length xs + 1
one-more xs x = length-append xs (x ∷ [])
