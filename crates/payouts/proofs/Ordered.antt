-- Places that rise, and the places that have a weight.
use Rattle.std.proofs.Common.{◌≡◌, ℕ, ◌+◌, ◌<◌, ◌≤◌, suc, zero, Bool, true, false, cond, nat_lt, map, get_or, List, [], ◌∷◌, ◌++◌, length, refl, Result, Ok, Err, sym, ap, ◌∙◌, subst, arith}
use Rattle.std.specs.List.{insert}
use Rattle.std.specs.List.Sorted.{IsBinarySearchResult}
use Rattle.std.specs.Ordering.{nat_cmp}
use Rattle.std.proofs.lemmas.Bool.{lt-ltb, le-ltb, ltb-false, ltb-true}
use Rattle.std.proofs.lemmas.List.Sorted.{searched}
use Rattle.payouts.specs.Weights.{IsRisingFrom, weighed_places, with_place}
use Rattle.payouts.specs.Window.{added}

-- places by their order
pub rising-least : (least : ℕ) (xs : List ℕ) (k : ℕ) → IsRisingFrom least xs → k < length xs → least ≤ get_or xs k 0
rising-least least [] k is within = absurd (none within) where
  none : k < 0 → ⊥
  none l = omega (arith, l)
rising-least least (x ∷ xs) zero is within = is.0
rising-least least (x ∷ xs) (suc k) is within = later (rising-least (suc x) xs k is.1 below) where
  below : k < length xs
  below = omega (arith, within)

  later : suc x ≤ get_or xs k 0 → least ≤ get_or xs k 0
  later l = omega (arith, l, is.0)

pub rising-order : (least : ℕ) (xs : List ℕ) (i j : ℕ) → IsRisingFrom least xs → i ≤ j → j < length xs → get_or xs i 0 ≤ get_or xs j 0
rising-order least [] i j is order within = absurd (none within) where
  none : j < 0 → ⊥
  none l = omega (arith, l)
rising-order least (x ∷ xs) zero zero is order within = omega arith
rising-order least (x ∷ xs) zero (suc j) is order within = later (rising-least (suc x) xs j is.1 below) where
  below : j < length xs
  below = omega (arith, within)

  later : suc x ≤ get_or xs j 0 → x ≤ get_or xs j 0
  later l = omega (arith, l)
rising-order least (x ∷ xs) (suc i) zero is order within = absurd (none order) where
  none : suc i ≤ 0 → ⊥
  none l = omega (arith, l)
rising-order least (x ∷ xs) (suc i) (suc j) is order within = rising-order (suc x) xs i j is.1 same below where
  same : i ≤ j
  same = omega (arith, order)

  below : j < length xs
  below = omega (arith, within)

-- where a place is put
with-before : (new x : ℕ) (xs : List ℕ) → x < new → with_place new (x ∷ xs) ≡ x ∷ with_place new xs
with-before new x xs l = ap (λ t. cond t (x ∷ with_place new xs) (cond (nat_lt new x) (new ∷ x ∷ xs) (x ∷ xs))) (lt-ltb x new l)

with-behind : (new x : ℕ) (xs : List ℕ) → new < x → with_place new (x ∷ xs) ≡ new ∷ x ∷ xs
with-behind new x xs l =
    ap (λ t. cond t (x ∷ with_place new xs) (cond (nat_lt new x) (new ∷ x ∷ xs) (x ∷ xs))) (le-ltb x new le)
    ∙ ap (λ t. cond t (new ∷ x ∷ xs) (x ∷ xs)) (lt-ltb new x l)
  where
    le : new ≤ x
    le = omega (arith, l)

with-same : (new x : ℕ) (xs : List ℕ) → x ≡ new → with_place new (x ∷ xs) ≡ x ∷ xs
with-same new x xs e =
    ap (λ t. cond t (x ∷ with_place new xs) (cond (nat_lt new x) (new ∷ x ∷ xs) (x ∷ xs))) (le-ltb x new le)
    ∙ ap (λ t. cond t (new ∷ x ∷ xs) (x ∷ xs)) (le-ltb new x ge)
  where
    le : new ≤ x
    le = omega (arith, e)

    ge : x ≤ new
    ge = omega (arith, e)

pub inserted : (xs : List ℕ) (new at : ℕ) → at ≤ length xs → ((k : ℕ) → k < at → get_or xs k 0 < new) → ((k : ℕ) → at ≤ k → k < length xs → new < get_or xs k 0)
    → insert xs at new ≡ with_place new xs
inserted [] new zero within before behind = refl
inserted [] new (suc at) within before behind = absurd (none within) where
  none : suc at ≤ 0 → ⊥
  none l = omega (arith, l)
inserted (x ∷ xs) new zero within before behind = sym (with-behind new x xs (behind 0 least some)) where
  least : 0 ≤ 0
  least = omega arith

  some : 0 < suc (length xs)
  some = omega arith
inserted (x ∷ xs) new (suc at) within before behind =
    ap (λ ys. x ∷ ys) (inserted xs new at below (λ k l. before (suc k) (up k l)) (λ k l m. behind (suc k) (over k l) (up' k m)))
    ∙ sym (with-before new x xs (before 0 some))
  where
    below : at ≤ length xs
    below = omega (arith, within)

    some : 0 < suc at
    some = omega arith

    up : (k : ℕ) → k < at → suc k < suc at
    up k l = omega (arith, l)

    over : (k : ℕ) → at ≤ k → suc at ≤ suc k
    over k l = omega (arith, l)

    up' : (k : ℕ) → k < length xs → suc k < suc (length xs)
    up' k l = omega (arith, l)

pub found : (least : ℕ) (xs : List ℕ) (place at : ℕ) → IsRisingFrom least xs → at < length xs → get_or xs at 0 ≡ place → with_place place xs ≡ xs
found least [] place at is within same = absurd (none within) where
  none : at < 0 → ⊥
  none l = omega (arith, l)
found least (x ∷ xs) place zero is within same = with-same place x xs same
found least (x ∷ xs) place (suc at) is within same = with-before place x xs less ∙ ap (λ ys. x ∷ ys) (found (suc x) xs place at is.1 below same) where
  below : at < length xs
  below = omega (arith, within)

  less : x < place
  less = omega (arith, rising-least (suc x) xs at is.1 below, same)

-- the same, one place further

with-further : (new : ℕ) (xs : List ℕ) → with_place (suc new) (map (λ place. suc place) xs) ≡ map (λ place. suc place) (with_place new xs)
with-further new [] = refl
with-further new (x ∷ xs) = by_tests (nat_lt x new) (nat_lt new x) refl refl (with-further new xs) where
  by_tests : (t u : Bool) → nat_lt x new ≡ t → nat_lt new x ≡ u
      → with_place (suc new) (map (λ place. suc place) xs) ≡ map (λ place. suc place) (with_place new xs)
      → with_place (suc new) (suc x ∷ map (λ place. suc place) xs) ≡ map (λ place. suc place) (cond t (x ∷ with_place new xs) (cond u (new ∷ x ∷ xs) (x ∷ xs)))
  by_tests true u e f more = with-before (suc new) (suc x) (map (λ place. suc place) xs) less ∙ ap (λ ys. suc x ∷ ys) more where
    less : suc x < suc new
    less = omega (arith, ltb-true x new e)
  by_tests false true e f more = with-behind (suc new) (suc x) (map (λ place. suc place) xs) less where
    less : suc new < suc x
    less = omega (arith, ltb-true new x f)
  by_tests false false e f more = with-same (suc new) (suc x) (map (λ place. suc place) xs) same where
    same : suc x ≡ suc new
    same = omega (arith, ltb-false x new e, ltb-false new x f)

with-first : (xs : List ℕ) → with_place 0 (map (λ place. suc place) xs) ≡ 0 ∷ map (λ place. suc place) xs
with-first [] = refl
with-first (x ∷ xs) = with-behind 0 (suc x) (map (λ place. suc place) xs) less where
  less : 0 < suc x
  less = omega arith

rising-further : (least : ℕ) (xs : List ℕ) → IsRisingFrom least xs → IsRisingFrom (suc least) (map (λ place. suc place) xs)
rising-further least [] is = tt
rising-further least (x ∷ xs) is = (up, rising-further (suc x) xs is.1) where
  up : suc least ≤ suc x
  up = omega (arith, is.0)

rising-lower : (xs : List ℕ) → IsRisingFrom 1 xs → IsRisingFrom 0 xs
rising-lower [] is = tt
rising-lower (x ∷ xs) is = (omega arith, is.1)

-- one weight in front of others
weighed-cons : (w : ℕ) (ws : List ℕ) → 0 < w → weighed_places (w ∷ ws) ≡ 0 ∷ map (λ place. suc place) (weighed_places ws)
weighed-cons w ws some = ap (λ t. cond t (0 ∷ map (λ place. suc place) (weighed_places ws)) (map (λ place. suc place) (weighed_places ws))) (lt-ltb 0 w some)

weighed-skip : (w : ℕ) (ws : List ℕ) → w ≡ 0 → weighed_places (w ∷ ws) ≡ map (λ place. suc place) (weighed_places ws)
weighed-skip w ws none = ap (λ t. cond t (0 ∷ map (λ place. suc place) (weighed_places ws)) (map (λ place. suc place) (weighed_places ws))) (le-ltb 0 w (omega (arith, none)))

pub weighed-rising : (ws : List ℕ) → IsRisingFrom 0 (weighed_places ws)
weighed-rising [] = tt
weighed-rising (w ∷ ws) = by_test (nat_lt 0 w) (rising-further 0 (weighed_places ws) (weighed-rising ws)) where
  by_test : (t : Bool) → IsRisingFrom 1 (map (λ place. suc place) (weighed_places ws))
      → IsRisingFrom 0 (cond t (0 ∷ map (λ place. suc place) (weighed_places ws)) (map (λ place. suc place) (weighed_places ws)))
  by_test true more = (omega arith, more)
  by_test false more = rising-lower (map (λ place. suc place) (weighed_places ws)) more

-- a weight that grows
pub weighed-added : (ws : List ℕ) (place x : ℕ) → 1 ≤ x → place < length ws → weighed_places (added ws place x) ≡ with_place place (weighed_places ws)
weighed-added [] place x some within = absurd (none within) where
  none : place < 0 → ⊥
  none l = omega (arith, l)
weighed-added (w ∷ ws) zero x some within = weighed-cons (w + x) ws grown ∙ by_test (nat_lt 0 w) where
  grown : 0 < w + x
  grown = omega (arith, some)

  by_test : (t : Bool) → 0 ∷ map (λ place. suc place) (weighed_places ws) ≡ with_place 0 (cond t (0 ∷ map (λ place. suc place) (weighed_places ws)) (map (λ place. suc place) (weighed_places ws)))
  by_test true = sym (with-same 0 0 (map (λ place. suc place) (weighed_places ws)) refl)
  by_test false = sym (with-first (weighed_places ws))
weighed-added (w ∷ ws) (suc place) x some within =
    by_test (nat_lt 0 w) (ap (map (λ place. suc place)) (weighed-added ws place x some below) ∙ sym (with-further place (weighed_places ws)))
  where
    below : place < length ws
    below = omega (arith, within)

    by_test : (t : Bool) → map (λ place. suc place) (weighed_places (added ws place x)) ≡ with_place (suc place) (map (λ place. suc place) (weighed_places ws))
        → cond t (0 ∷ map (λ place. suc place) (weighed_places (added ws place x))) (map (λ place. suc place) (weighed_places (added ws place x)))
        ≡ with_place (suc place) (cond t (0 ∷ map (λ place. suc place) (weighed_places ws)) (map (λ place. suc place) (weighed_places ws)))
    by_test true more = ap (λ ys. 0 ∷ ys) more ∙ sym (with-before (suc place) 0 (map (λ place. suc place) (weighed_places ws)) (omega arith))
    by_test false more = more

-- an account more, without a weight
pub weighed-newcomer : (ws : List ℕ) → weighed_places (ws ++ 0 ∷ []) ≡ weighed_places ws
weighed-newcomer [] = refl
weighed-newcomer (w ∷ ws) =
    ap (λ ps. cond (nat_lt 0 w) (0 ∷ map (λ place. suc place) ps) (map (λ place. suc place) ps)) (weighed-newcomer ws)

-- what a search among places comes to
pub found_at : (xs : List ℕ) (place at : ℕ) (r : Result ℕ ℕ) → IsRisingFrom 0 xs → r ≡ Ok at → IsBinarySearchResult (λ y. nat_cmp y place) xs r
    → (at < length xs) × (get_or xs at 0 ≡ place)
found_at xs place at r is e h =
    let ok : IsBinarySearchResult (λ y. nat_cmp y place) xs (Ok at) = subst (λ r. IsBinarySearchResult (λ y. nat_cmp y place) xs r) e h in
    searched xs place (Ok at) ok (λ i j. rising-order 0 xs i j is)

abbrev IsGap : List ℕ → ℕ → ℕ → Type 0
IsGap xs place at = (at ≤ length xs) × ((k : ℕ) → k < at → get_or xs k 0 < place) × ((k : ℕ) → at ≤ k → k < length xs → place < get_or xs k 0)

gap_at : (xs : List ℕ) (place at : ℕ) (r : Result ℕ ℕ) → IsRisingFrom 0 xs → r ≡ Err at → IsBinarySearchResult (λ y. nat_cmp y place) xs r → IsGap xs place at
gap_at xs place at r is e h =
    let err : IsBinarySearchResult (λ y. nat_cmp y place) xs (Err at) = subst (λ r. IsBinarySearchResult (λ y. nat_cmp y place) xs r) e h in
    searched xs place (Err at) err (λ i j. rising-order 0 xs i j is)

pub inserted_at : (xs : List ℕ) (place at : ℕ) (r : Result ℕ ℕ) → IsRisingFrom 0 xs → r ≡ Err at → IsBinarySearchResult (λ y. nat_cmp y place) xs r
    → insert xs at place ≡ with_place place xs
inserted_at xs place at r is e h =
    let gap : IsGap xs place at = gap_at xs place at r is e h in
    inserted xs place at gap.0 gap.1 gap.2
