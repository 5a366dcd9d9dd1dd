-- How often places are listed, and lists in order.
use Rattle.std.proofs.Common.{◌≡◌, ℕ, ◌+◌, ◌<◌, ◌≤◌, suc, zero, Bool, true, false, cond, nat_eq, nat_lt, map, get_or, List, [], ◌∷◌, ◌++◌, length, IsPermutation, refl, sym, ap, ap₂, ◌∙◌, subst, arith}
use Rattle.std.specs.List.Sorted.{IsNonDecreasingBy, IsSorted}
use Rattle.std.specs.Ordering.{nat_cmp}
use Rattle.std.proofs.lemmas.Bool.{eq-eqb, eqb-true, ne_eqb}
use Rattle.std.proofs.lemmas.List.Sorted.{IsNonDecreasingBy-from_sort, sum_by-IsPermutation}
use Rattle.std.proofs.lemmas.List.Sums.{sum_by-append, sum_by-cons}
use Rattle.payouts.specs.Listings.{ListsOnce, times_listed}
use Rattle.payouts.specs.Weights.{IsRisingFrom, weighed_places}
use Rattle.payouts.proofs.Ordered.{weighed-rising}

-- one place in front of others
pub times-cons : (place x : ℕ) (xs : List ℕ) → times_listed place (x ∷ xs) ≡ cond (nat_eq x place) 1 0 + times_listed place xs
times-cons place x xs = sum_by-cons (λ (listed : ℕ). cond (nat_eq listed place) 1 0) x xs

pub times-same : (place x : ℕ) (xs : List ℕ) → x ≡ place → times_listed place (x ∷ xs) ≡ suc (times_listed place xs)
times-same place x xs same = omega (arith, times-cons place x xs, ap {B = ℕ} (λ t. cond t 1 0) (eq-eqb x place same))

pub times-other : (place x : ℕ) (xs : List ℕ) → (x ≡ place → ⊥) → times_listed place (x ∷ xs) ≡ times_listed place xs
times-other place x xs other = omega (arith, times-cons place x xs, ap {B = ℕ} (λ t. cond t 1 0) (ne_eqb x place other))

-- one place behind others
pub times-push : (place x : ℕ) (xs : List ℕ) → times_listed place (xs ++ x ∷ []) ≡ cond (nat_eq x place) 1 0 + times_listed place xs
times-push place x xs =
    omega (arith, sum_by-append (λ (listed : ℕ). cond (nat_eq listed place) 1 0) xs (x ∷ []), times-cons place x [])

-- a place that is listed stands somewhere, and one that stands somewhere is listed
pub times-at : (place : ℕ) (xs : List ℕ) (k : ℕ) → k < length xs → get_or xs k 0 ≡ place → 1 ≤ times_listed place xs
times-at place [] k within same = absurd (none within) where
  none : k < 0 → ⊥
  none l = omega (arith, l)
times-at place (x ∷ xs) zero within same = omega (arith, times-same place x xs same)
times-at place (x ∷ xs) (suc k) within same = omega (arith, times-cons place x xs, times-at place xs k below same) where
  below : k < length xs
  below = omega (arith, within)

pub times-find : (place : ℕ) (xs : List ℕ) → 1 ≤ times_listed place xs → (k : ℕ) × (k < length xs) × (get_or xs k 0 ≡ place)
times-find place [] some = absurd (none some) where
  none : 1 ≤ 0 → ⊥
  none l = omega (arith, l)
times-find place (x ∷ xs) some = by_test (nat_eq x place) refl (times-find place xs) where
  further : (k : ℕ) × (k < length xs) × (get_or xs k 0 ≡ place) → (k : ℕ) × (k < suc (length xs)) × (get_or (x ∷ xs) k 0 ≡ place)
  further at = (suc at.0, omega (arith, at.1), at.2)

  by_test : (t : Bool) → nat_eq x place ≡ t → (1 ≤ times_listed place xs → (k : ℕ) × (k < length xs) × (get_or xs k 0 ≡ place))
      → (k : ℕ) × (k < suc (length xs)) × (get_or (x ∷ xs) k 0 ≡ place)
  by_test true e more = (0, omega arith, eqb-true x place e)
  by_test false e more = further (more (omega (arith, some, times-cons place x xs, ap {B = ℕ} (λ t. cond t 1 0) e)))

-- how often the places that have a weight are listed
times-further : (place : ℕ) (xs : List ℕ) → times_listed (suc place) (map (λ n. suc n) xs) ≡ times_listed place xs
times-further place [] = refl
times-further place (x ∷ xs) = by_test (nat_eq x place) refl (times-further place xs) where
  by_test : (t : Bool) → nat_eq x place ≡ t → times_listed (suc place) (map (λ n. suc n) xs) ≡ times_listed place xs
      → times_listed (suc place) (suc x ∷ map (λ n. suc n) xs) ≡ times_listed place (x ∷ xs)
  by_test true e more = times-same (suc place) (suc x) (map (λ n. suc n) xs) (ap (λ n. suc n) (eqb-true x place e)) ∙ ap (λ n. suc n) more ∙ sym (times-same place x xs (eqb-true x place e))
  by_test false e more = times-other (suc place) (suc x) (map (λ n. suc n) xs) (λ same. other (omega (arith, same))) ∙ more ∙ sym (times-other place x xs other) where
    other : x ≡ place → ⊥
    other same = cc (eq-eqb x place same)

times-first : (xs : List ℕ) → times_listed 0 (map (λ n. suc n) xs) ≡ 0
times-first [] = refl
times-first (x ∷ xs) = times-other 0 (suc x) (map (λ n. suc n) xs) other ∙ times-first xs where
  other : suc x ≡ 0 → ⊥
  other e = omega (arith, e)

pub times-weighed : (place : ℕ) (ws : List ℕ) → times_listed place (weighed_places ws) ≡ cond (nat_lt 0 (get_or ws place 0)) 1 0
times-weighed place [] = refl
times-weighed zero (w ∷ ws) = by_test (nat_lt 0 w) where
  by_test : (t : Bool) → times_listed 0 (cond t (0 ∷ map (λ n. suc n) (weighed_places ws)) (map (λ n. suc n) (weighed_places ws))) ≡ cond t 1 0
  by_test true = times-same 0 0 (map (λ n. suc n) (weighed_places ws)) refl ∙ ap (λ n. suc n) (times-first (weighed_places ws))
  by_test false = times-first (weighed_places ws)
times-weighed (suc place) (w ∷ ws) = by_test (nat_lt 0 w) (times-further place (weighed_places ws) ∙ times-weighed place ws) where
  other : 0 ≡ suc place → ⊥
  other e = omega (arith, e)

  by_test : (t : Bool) → times_listed (suc place) (map (λ n. suc n) (weighed_places ws)) ≡ cond (nat_lt 0 (get_or ws place 0)) 1 0
      → times_listed (suc place) (cond t (0 ∷ map (λ n. suc n) (weighed_places ws)) (map (λ n. suc n) (weighed_places ws))) ≡ cond (nat_lt 0 (get_or ws place 0)) 1 0
  by_test true more = times-other (suc place) 0 (map (λ n. suc n) (weighed_places ws)) other ∙ more
  by_test false more = more

-- numbers that don't fall
abbrev IsOrderedFrom : ℕ → List ℕ → Type 0
IsOrderedFrom least [] = Unit
IsOrderedFrom least (x ∷ xs) = (least ≤ x) × IsOrderedFrom x xs

ordered-rising : (least : ℕ) (xs : List ℕ) → IsRisingFrom least xs → IsOrderedFrom least xs
ordered-rising least [] is = tt
ordered-rising least (x ∷ xs) is = (is.0, lower xs (ordered-rising (suc x) xs is.1)) where
  lower : (ys : List ℕ) → IsOrderedFrom (suc x) ys → IsOrderedFrom x ys
  lower [] h = tt
  lower (y ∷ ys) h = (omega (arith, h.0), h.1)

ordered-by_places : (least : ℕ) (xs : List ℕ) → IsNonDecreasingBy (λ n. n) xs → (0 < length xs → least ≤ get_or xs 0 0) → IsOrderedFrom least xs
ordered-by_places least [] is from = tt
ordered-by_places least (x ∷ xs) is from = (from (omega arith), ordered-by_places x xs later first) where
  later : IsNonDecreasingBy (λ n. n) xs
  later i j d order within = is (suc i) (suc j) d (omega (arith, order)) (omega (arith, within))

  first : 0 < length xs → x ≤ get_or xs 0 0
  first some = is 0 1 0 (omega arith) (omega (arith, some))

ordered-least : (place least : ℕ) (xs : List ℕ) → IsOrderedFrom least xs → 1 ≤ times_listed place xs → least ≤ place
ordered-least place least [] is some = absurd (none some) where
  none : 1 ≤ 0 → ⊥
  none l = omega (arith, l)
ordered-least place least (x ∷ xs) is some = by_test (nat_eq x place) refl (ordered-least place x xs is.1) where
  by_test : (t : Bool) → nat_eq x place ≡ t → (1 ≤ times_listed place xs → x ≤ place) → least ≤ place
  by_test true e more = omega (arith, eqb-true x place e, is.0)
  by_test false e more =
      omega (arith, is.0, more (omega (arith, some, times-cons place x xs, ap {B = ℕ} (λ t. cond t 1 0) e)))

-- two lists in order are the same where each place is listed as often
ordered-same : (least : ℕ) (xs ys : List ℕ) → IsOrderedFrom least xs → IsOrderedFrom least ys → ((place : ℕ) → times_listed place xs ≡ times_listed place ys) → xs ≡ ys
ordered-same least [] [] is is' same = refl
ordered-same least [] (y ∷ ys) is is' same = absurd (none (same y)) where
  none : 0 ≡ times_listed y (y ∷ ys) → ⊥
  none e = omega (arith, e, times-same y y ys refl)
ordered-same least (x ∷ xs) [] is is' same = absurd (none (same x)) where
  none : times_listed x (x ∷ xs) ≡ 0 → ⊥
  none e = omega (arith, e, times-same x x xs refl)
ordered-same least (x ∷ xs) (y ∷ ys) is is' same =
    ap₂ (λ n ns. n ∷ ns) first (ordered-same x xs ys is.1 (subst (λ n. IsOrderedFrom n ys) (sym first) is'.1) later)
  where
    below : x ≤ y
    below = ordered-least y x (x ∷ xs) (omega arith, is.1) (omega (arith, same y, times-same y y ys refl))

    above : y ≤ x
    above = ordered-least x y (y ∷ ys) (omega arith, is'.1) (omega (arith, same x, times-same x x xs refl))

    first : x ≡ y
    first = omega (arith, below, above)

    later : (place : ℕ) → times_listed place xs ≡ times_listed place ys
    later place = omega (arith, same place, times-cons place x xs, times-cons place y ys, ap {B = ℕ} (λ n. cond (nat_eq n place) 1 0) first)

-- so the places that have a weight, listed once each and sorted
pub sorted-weighed : (ws places sorted : List ℕ) → ListsOnce ws places → IsPermutation places sorted → IsSorted nat_cmp sorted → sorted ≡ weighed_places ws
sorted-weighed ws places sorted is moved up =
    ordered-same 0 sorted (weighed_places ws) (ordered-by_places 0 sorted (IsNonDecreasingBy-from_sort (λ n. n) sorted up) (λ some. omega arith)) (ordered-rising 0 (weighed_places ws) (weighed-rising ws)) same
  where
    same : (place : ℕ) → times_listed place sorted ≡ times_listed place (weighed_places ws)
    same place = sum_by-IsPermutation (λ (listed : ℕ). cond (nat_eq listed place) 1 0) places sorted moved ∙ is.each place ∙ sym (times-weighed place ws)
