-- The window after a push: what a window of the last work holds.
use Rattle.std.proofs.Common.{◌≡◌, ℕ, ◌+◌, ◌-◌, ◌<◌, ◌≤◌, min, Bool, true, false, cond, if◌then◌else◌, nat_le, nat_lt, List, [], ◌∷◌, ◌++◌, reverse, refl, sym, ap, ap₂, ◌∙◌, subst, arith}
use Rattle.std.specs.List.{AllByRecursion}
use Rattle.std.proofs.lemmas.Bool.{leb-true, leb-false, ltb-false, ltb-true}
use Rattle.std.proofs.lemmas.List.{append-nil, reverse-append}
use Rattle.payout_laws.proofs.Sums.{all-append}
use Rattle.pool_history.specs.Crediting.{Booked}
use Rattle.pool_history.specs.Settling.{Part, last_work}
use Rattle.payouts.specs.declared.window.Kept.{Kept}
use Rattle.payouts.specs.Tallies.{account_place, placed}
use Rattle.payouts.specs.Window.{IsKeptCredit, without_oldest}

-- the last credits that so much work is left for, the last first
abbrev pub fitted : ℕ → List Kept → List Kept
fitted left [] = []
fitted left (k ∷ older) =
    if nat_lt 0 left then record { place = k.place; part = min k.part left } ∷ fitted (left - k.part) older else []

abbrev pub parts_sum : List Kept → ℕ
parts_sum [] = 0
parts_sum (k ∷ newer) = k.part + parts_sum newer

pub parts_sum-append : (xs ys : List Kept) → parts_sum (xs ++ ys) ≡ parts_sum xs + parts_sum ys
parts_sum-append [] ys = omega arith
parts_sum-append (k ∷ xs) ys = omega (arith, parts_sum-append xs ys)

fitted-none : (xs : List Kept) → fitted 0 xs ≡ []
fitted-none [] = refl
fitted-none (k ∷ xs) = refl

-- the oldest credit is looked at last
fitted-end : (left : ℕ) (xs : List Kept) (k : Kept)
    → fitted left (xs ++ k ∷ []) ≡ fitted left xs ++ fitted (left - parts_sum xs) (k ∷ [])
fitted-end left [] k = ap (λ n. fitted n (k ∷ [])) same where
  same : left ≡ left - 0
  same = omega arith
fitted-end left (x ∷ xs) k = by_test (nat_lt 0 left) refl (fitted-end (left - x.part) xs k) where
  spread : left - x.part - parts_sum xs ≡ left - (x.part + parts_sum xs)
  spread = omega arith

  by_test : (t : Bool) → nat_lt 0 left ≡ t
      → fitted (left - x.part) (xs ++ k ∷ []) ≡ fitted (left - x.part) xs ++ fitted (left - x.part - parts_sum xs) (k ∷ [])
      → cond t (record { place = x.place; part = min x.part left } ∷ fitted (left - x.part) (xs ++ k ∷ [])) []
      ≡ cond t (record { place = x.place; part = min x.part left } ∷ fitted (left - x.part) xs) [] ++ fitted (left - (x.part + parts_sum xs)) (k ∷ [])
  by_test true e more = ap (λ rest. record { place = x.place; part = min x.part left } ∷ rest)
      (more ∙ ap (λ n. fitted (left - x.part) xs ++ fitted n (k ∷ [])) spread)
  by_test false e more =
      let none : left - (x.part + parts_sum xs) ≡ 0 = omega (arith, ltb-false 0 left e) in
      sym (ap (λ n. fitted n (k ∷ [])) none)

-- where all fits, all stays
fitted-all : (n left : ℕ) (xs : List Kept) → AllByRecursion (IsKeptCredit n) xs → parts_sum xs ≤ left → fitted left xs ≡ xs
fitted-all n left [] each fits = refl
fitted-all n left (x ∷ xs) each fits = by_test (nat_lt 0 left) refl (fitted-all n (left - x.part) xs each.1) where
  by_test : (t : Bool) → nat_lt 0 left ≡ t → (parts_sum xs ≤ left - x.part → fitted (left - x.part) xs ≡ xs) → cond t (record { place = x.place; part = min x.part left } ∷ fitted (left - x.part) xs) [] ≡ x ∷ xs
  by_test true e more = ap₂ (λ part rest. record { place = x.place; part = part } ∷ rest) same (more smaller) where
    same : min x.part left ≡ x.part
    same = omega (arith, fits)

    smaller : parts_sum xs ≤ left - x.part
    smaller = omega (arith, fits)
  by_test false e more = absurd (filled (ltb-false 0 left e)) where
    filled : left ≤ 0 → ⊥
    filled l = omega (arith, l, fits, each.0.some)

pub all-reverse : (n : ℕ) (xs : List Kept) → AllByRecursion (IsKeptCredit n) xs → AllByRecursion (IsKeptCredit n) (reverse xs)
all-reverse n [] each = tt
all-reverse n (x ∷ xs) each = subst (AllByRecursion (IsKeptCredit n)) (sym (reverse-append (x ∷ []) xs)) (all-append (IsKeptCredit n) (reverse xs) (x ∷ []) (all-reverse n xs each.1) (each.0, tt))

parts_sum-reverse : (xs : List Kept) → parts_sum (reverse xs) ≡ parts_sum xs
parts_sum-reverse [] = refl
parts_sum-reverse (x ∷ xs) = ap parts_sum (reverse-append (x ∷ []) xs) ∙ parts_sum-append (reverse xs) (x ∷ []) ∙ turned (parts_sum-reverse xs) where
  turned : parts_sum (reverse xs) ≡ parts_sum xs → parts_sum (reverse xs) + (x.part + 0) ≡ x.part + parts_sum xs
  turned e = omega (arith, e)

-- what is left of the oldest credits is what fits of the last ones
pub cut-fits : (n window : ℕ) (all : List Kept) → AllByRecursion (IsKeptCredit n) all
    → reverse (without_oldest (parts_sum all - window) all) ≡ fitted window (reverse all)
cut-fits n window [] each = refl
cut-fits n window (k ∷ newer) each =
    by_test (nat_le k.part (parts_sum (k ∷ newer) - window)) refl (cut-fits n window newer each.1) ∙ ap (fitted window) (sym (reverse-append (k ∷ []) newer))
  where
    ends : fitted window (reverse newer ++ k ∷ []) ≡ fitted window (reverse newer) ++ fitted (window - parts_sum newer) (k ∷ [])
    ends = fitted-end window (reverse newer) k ∙ ap (λ m. fitted window (reverse newer) ++ fitted (window - m) (k ∷ [])) (parts_sum-reverse newer)

    by_test : (t : Bool) → nat_le k.part (parts_sum (k ∷ newer) - window) ≡ t
        → reverse (without_oldest (parts_sum newer - window) newer) ≡ fitted window (reverse newer)
        → reverse (cond t (without_oldest (parts_sum (k ∷ newer) - window - k.part) newer) (record { place = k.place; part = k.part - (parts_sum (k ∷ newer) - window) } ∷ newer))
        ≡ fitted window (reverse newer ++ k ∷ [])
    by_test true e more =
        let over : window ≤ parts_sum newer = omega (arith, leb-true k.part (parts_sum (k ∷ newer) - window) e, each.0.some) in
        let less : parts_sum (k ∷ newer) - window - k.part ≡ parts_sum newer - window = omega (arith, over) in
        let none : window - parts_sum newer ≡ 0 = omega (arith, over) in
        ap (λ m. reverse (without_oldest m newer)) less ∙ more
        ∙ sym (append-nil (fitted window (reverse newer)))
        ∙ ap (λ m. fitted window (reverse newer) ++ fitted m (k ∷ [])) (sym none) ∙ sym ends
    by_test false e more =
        let less : parts_sum (k ∷ newer) - window < k.part = leb-false k.part (parts_sum (k ∷ newer) - window) e in
        let fits : parts_sum (reverse newer) ≤ window = omega (arith, less, parts_sum-reverse newer) in
        reverse-append (record { place = k.place; part = k.part - (parts_sum (k ∷ newer) - window) } ∷ []) newer
        ∙ ap (λ rest. reverse newer ++ rest) (last (nat_lt 0 (window - parts_sum newer)) refl)
        ∙ ap (λ xs. xs ++ fitted (window - parts_sum newer) (k ∷ [])) (sym (fitted-all n window (reverse newer) (all-reverse n newer each.1) fits)) ∙ sym ends
      where
        last : (t : Bool) → nat_lt 0 (window - parts_sum newer) ≡ t
            → ◌≡◌ {A = List Kept} (record { place = k.place; part = k.part - (parts_sum (k ∷ newer) - window) } ∷ [])
            (cond t (record { place = k.place; part = min k.part (window - parts_sum newer) } ∷ []) [])
        last true f = ap (λ part. record { place = k.place; part = part } ∷ []) same where
          same : k.part - (parts_sum (k ∷ newer) - window) ≡ min k.part (window - parts_sum newer)
          same = omega (arith, leb-false k.part (parts_sum (k ∷ newer) - window) e, ltb-true 0 (window - parts_sum newer) f)
        last false f = absurd (filled (ltb-false 0 (window - parts_sum newer) f)) where
          filled : window - parts_sum newer ≤ 0 → ⊥
          filled l = omega (arith, l, leb-false k.part (parts_sum (k ∷ newer) - window) e)

-- the parts of the last work, by what is left of the window
abbrev pub left_of : ℕ → List Booked → List Part
left_of left [] = []
left_of left (credit ∷ older) = record { account = credit.account; weight = min credit.work left } ∷ left_of (left - credit.work) older

pub last_work-left : (window later : ℕ) (credits : List Booked) → last_work window later credits ≡ left_of (window - later) credits
last_work-left window later [] = refl
last_work-left window later (credit ∷ older) =
    ap₂ (λ n rest. record { account = credit.account; weight = n } ∷ rest) same
    (last_work-left window (later + credit.work) older ∙ ap (λ n. left_of n older) less)
  where
    same : min credit.work (window - min window later) ≡ min credit.work (window - later)
    same = omega arith

    less : window - (later + credit.work) ≡ window - later - credit.work
    less = omega arith

placed-none : (accounts : List (List ℕ)) (credits : List Booked) → placed accounts (left_of 0 credits) ≡ []
placed-none accounts [] = refl
placed-none accounts (credit ∷ older) = by_test (nat_lt 0 (min credit.work 0)) refl (placed-none accounts older) where
  less : 0 - credit.work ≡ 0
  less = omega arith

  by_test : (t : Bool) → nat_lt 0 (min credit.work 0) ≡ t → placed accounts (left_of 0 older) ≡ []
      → cond t (record { place = account_place accounts credit.account; part = min credit.work 0 } ∷ placed accounts (left_of (0 - credit.work) older)) (placed accounts (left_of (0 - credit.work) older)) ≡ []
  by_test true e more = absurd (none (ltb-true 0 (min credit.work 0) e)) where
    none : 0 < min credit.work 0 → ⊥
    none l = omega (arith, l)
  by_test false e more = ap (λ n. placed accounts (left_of n older)) less ∙ more

-- the first credit of a smaller window
fitted-first : (accounts : List (List ℕ)) (left less : ℕ) (credit : Booked) (older : List Booked) → less ≤ left
    → (less - credit.work ≤ left - credit.work → fitted (less - credit.work) (placed accounts (left_of (left - credit.work) older)) ≡ placed accounts (left_of (less - credit.work) older))
    → fitted less (placed accounts (left_of left (credit ∷ older))) ≡ placed accounts (left_of less (credit ∷ older))
fitted-first accounts left less credit older within more =
    by_tests (nat_lt 0 (min credit.work left)) (nat_lt 0 (min credit.work less)) (nat_lt 0 less) refl refl refl
  where
    rest : fitted (less - credit.work) (placed accounts (left_of (left - credit.work) older)) ≡ placed accounts (left_of (less - credit.work) older)
    rest = more below where
      below : less - credit.work ≤ left - credit.work
      below = omega (arith, within)

    by_tests : (t u v : Bool) → nat_lt 0 (min credit.work left) ≡ t → nat_lt 0 (min credit.work less) ≡ u → nat_lt 0 less ≡ v
        → fitted less (cond t (record { place = account_place accounts credit.account; part = min credit.work left } ∷ placed accounts (left_of (left - credit.work) older)) (placed accounts (left_of (left - credit.work) older)))
        ≡ cond u (record { place = account_place accounts credit.account; part = min credit.work less } ∷ placed accounts (left_of (less - credit.work) older)) (placed accounts (left_of (less - credit.work) older))
    by_tests true u true e f g = taken u f where
      same : min (min credit.work left) less ≡ min credit.work less
      same = omega (arith, within)

      remains : less - min credit.work left ≡ less - credit.work
      remains = omega (arith, within)

      shown : (w : Bool) → w ≡ true
          → cond w (record { place = account_place accounts credit.account; part = min (min credit.work left) less } ∷ fitted (less - min credit.work left) (placed accounts (left_of (left - credit.work) older))) []
          ≡ record { place = account_place accounts credit.account; part = min credit.work less } ∷ placed accounts (left_of (less - credit.work) older)
      shown true h = ap₂ (λ n m. record { place = account_place accounts credit.account; part = n } ∷ fitted m (placed accounts (left_of (left - credit.work) older))) same remains
          ∙ ap (λ xs. record { place = account_place accounts credit.account; part = min credit.work less } ∷ xs) rest
      shown false h = cc

      taken : (u : Bool) → nat_lt 0 (min credit.work less) ≡ u
          → fitted less (record { place = account_place accounts credit.account; part = min credit.work left } ∷ placed accounts (left_of (left - credit.work) older))
          ≡ cond u (record { place = account_place accounts credit.account; part = min credit.work less } ∷ placed accounts (left_of (less - credit.work) older)) (placed accounts (left_of (less - credit.work) older))
      taken true f = shown (nat_lt 0 less) g
      taken false f = absurd (some (ltb-true 0 less g) (ltb-true 0 (min credit.work left) e) (ltb-false 0 (min credit.work less) f)) where
        some : 0 < less → 0 < min credit.work left → min credit.work less ≤ 0 → ⊥
        some a b c = omega (arith, a, b, c)
    by_tests t u false e f g = none t u f where
      zero_less : less ≡ 0
      zero_less = omega (arith, ltb-false 0 less g)

      gone : (xs : List Kept) → fitted less xs ≡ []
      gone xs = ap (λ n. fitted n xs) zero_less ∙ fitted-none xs

      nothing : placed accounts (left_of (less - credit.work) older) ≡ []
      nothing = ap (λ n. placed accounts (left_of n older)) zero ∙ placed-none accounts older where
        zero : less - credit.work ≡ 0
        zero = omega (arith, ltb-false 0 less g)

      none : (t u : Bool) → nat_lt 0 (min credit.work less) ≡ u
          → fitted less (cond t (record { place = account_place accounts credit.account; part = min credit.work left } ∷ placed accounts (left_of (left - credit.work) older)) (placed accounts (left_of (left - credit.work) older)))
          ≡ cond u (record { place = account_place accounts credit.account; part = min credit.work less } ∷ placed accounts (left_of (less - credit.work) older)) (placed accounts (left_of (less - credit.work) older))
      none t true h = absurd (empty (ltb-true 0 (min credit.work less) h)) where
        empty : 0 < min credit.work less → ⊥
        empty l = omega (arith, l, ltb-false 0 less g)
      none t false h = gone (cond t (record { place = account_place accounts credit.account; part = min credit.work left } ∷ placed accounts (left_of (left - credit.work) older)) (placed accounts (left_of (left - credit.work) older))) ∙ sym nothing
    by_tests false true true e f g = absurd (some (ltb-false 0 (min credit.work left) e) (ltb-true 0 (min credit.work less) f)) where
      some : min credit.work left ≤ 0 → 0 < min credit.work less → ⊥
      some a b = omega (arith, a, b, within)
    by_tests false false true e f g =
        let same : less - credit.work ≡ less = omega (arith, ltb-false 0 (min credit.work left) e, ltb-true 0 less g, within) in
        ap (λ n. fitted n (placed accounts (left_of (left - credit.work) older))) (sym same) ∙ rest

-- a smaller window of a window is the smaller window
pub fitted-left : (accounts : List (List ℕ)) (left less : ℕ) (credits : List Booked) → less ≤ left
    → fitted less (placed accounts (left_of left credits)) ≡ placed accounts (left_of less credits)
fitted-left accounts left less [] within = refl
fitted-left accounts left less (credit ∷ older) within =
    fitted-first accounts left less credit older within (fitted-left accounts (left - credit.work) (less - credit.work) older)
