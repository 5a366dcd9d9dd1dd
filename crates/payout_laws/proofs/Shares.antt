-- Payments that are quotients: their sums, and how far these are from what is paid out.
use Rattle.std.proofs.Common.{◌≡◌, ℕ, ◌+◌, ◌*◌, ◌/◌, ◌<◌, ◌≤◌, Bool, true, false, cond, not, bytes_eq, map, sum_by, nat_lt, List, [], ◌∷◌, length, refl, sym, ap, ◌∙◌, subst, arith, le_of_mul-le-mul_right, lt_of_mul-lt-mul_right, div-mul-le_self}
use Rattle.std.specs.List.{AllByRecursion, list_any}
use Rattle.std.proofs.Math.Nat.{lt-div-mul-add, zero-div}
use Rattle.std.proofs.lemmas.Bool.{and_from, and_parts, ltb-false, ltb-true, not-true, not_from_false, or_from, or_parts}
use Rattle.std.proofs.lemmas.List.Sums.{sum_by-cons}
use Rattle.pool_history.specs.Accounts.{are_distinct}
use Rattle.pool_history.specs.Settling.{Part, Payment, all_weights, payment, payments_of, weight}
use Rattle.payout_laws.specs.Conservation.{IsRoundedDown}

-- a sum over the payments is one over the accounts, where those without a weight count nothing
pub sum_by-payments : (g : Payment → ℕ) (paid_out : ℕ) (parts : List Part) (accounts : List (List ℕ))
    → ((account : List ℕ) → weight account parts ≡ 0 → g (payment paid_out parts account) ≡ 0)
    → sum_by g (payments_of paid_out parts accounts) ≡ sum_by (λ account. g (payment paid_out parts account)) accounts
sum_by-payments g paid_out parts [] none = refl
sum_by-payments g paid_out parts (account ∷ accounts) none =
    by_test (nat_lt 0 (weight account parts)) refl (sum_by-payments g paid_out parts accounts none)
    ∙ sym (sum_by-cons (λ account. g (payment paid_out parts account)) account accounts)
  where
    by_test : (t : Bool) → nat_lt 0 (weight account parts) ≡ t
        → sum_by g (payments_of paid_out parts accounts) ≡ sum_by (λ account. g (payment paid_out parts account)) accounts
        → sum_by g (cond t (payment paid_out parts account ∷ payments_of paid_out parts accounts) (payments_of paid_out parts accounts))
        ≡ g (payment paid_out parts account) + sum_by (λ account. g (payment paid_out parts account)) accounts
    by_test true e rest =
        sum_by-cons g (payment paid_out parts account) (payments_of paid_out parts accounts) ∙ ap (λ n. g (payment paid_out parts account) + n) rest
    by_test false e rest =
        let zero : weight account parts ≡ 0 = omega (arith, ltb-false 0 (weight account parts) e) in
        omega (arith, rest, none account zero)

-- what holds of each account with a weight holds of each payment
pub all-payments : (P : Payment → Type 0) (paid_out : ℕ) (parts : List Part) (accounts : List (List ℕ))
    → AllByRecursion (λ account. 0 < weight account parts → P (payment paid_out parts account)) accounts
    → AllByRecursion P (payments_of paid_out parts accounts)
all-payments P paid_out parts [] each = tt
all-payments P paid_out parts (account ∷ accounts) each =
    by_test (nat_lt 0 (weight account parts)) refl (all-payments P paid_out parts accounts each.1)
  where
    by_test : (t : Bool) → nat_lt 0 (weight account parts) ≡ t → AllByRecursion P (payments_of paid_out parts accounts)
        → AllByRecursion P (cond t (payment paid_out parts account ∷ payments_of paid_out parts accounts) (payments_of paid_out parts accounts))
    by_test true e rest = (each.0 (ltb-true 0 (weight account parts) e), rest)
    by_test false e rest = rest

-- what holds of each element
pub all-each : {X : Type 0} (P : X → Type 0) (xs : List X) → ((x : X) → P x) → AllByRecursion P xs
all-each P [] each = tt
all-each P (x ∷ xs) each = (each x, all-each P xs each)

-- the accounts of the payments
abbrev pub paid_accounts : ℕ → List Part → List (List ℕ) → List (List ℕ)
paid_accounts paid_out parts accounts = map (λ paid. paid.account) (payments_of paid_out parts accounts)

-- an account that isn't there isn't paid, and none is paid twice
pub absent-payments : (a : List ℕ) (paid_out : ℕ) (parts : List Part) (accounts : List (List ℕ))
    → list_any (bytes_eq a) accounts ≡ false → list_any (bytes_eq a) (paid_accounts paid_out parts accounts) ≡ false
absent-payments a paid_out parts [] none = refl
absent-payments a paid_out parts (account ∷ accounts) none =
    by_test (nat_lt 0 (weight account parts)) (absent-payments a paid_out parts accounts apart.1)
  where
    apart : (bytes_eq a account ≡ false) × (list_any (bytes_eq a) accounts ≡ false)
    apart = or_parts (bytes_eq a account) (list_any (bytes_eq a) accounts) none

    by_test : (t : Bool) → list_any (bytes_eq a) (paid_accounts paid_out parts accounts) ≡ false
        → list_any (bytes_eq a) (map (λ paid. paid.account) (cond t (payment paid_out parts account ∷ payments_of paid_out parts accounts) (payments_of paid_out parts accounts))) ≡ false
    by_test true rest = or_from (bytes_eq a account) (list_any (bytes_eq a) (paid_accounts paid_out parts accounts)) apart.0 rest
    by_test false rest = rest

pub distinct-payments : (paid_out : ℕ) (parts : List Part) (accounts : List (List ℕ)) → are_distinct accounts ≡ true
    → are_distinct (paid_accounts paid_out parts accounts) ≡ true
distinct-payments paid_out parts [] distinct = refl
distinct-payments paid_out parts (account ∷ accounts) distinct =
    by_test (nat_lt 0 (weight account parts)) (distinct-payments paid_out parts accounts apart.1)
  where
    apart : (not (list_any (bytes_eq account) accounts) ≡ true) × (are_distinct accounts ≡ true)
    apart = and_parts (not (list_any (bytes_eq account) accounts)) (are_distinct accounts) distinct

    by_test : (t : Bool) → are_distinct (paid_accounts paid_out parts accounts) ≡ true
        → are_distinct (map (λ paid. paid.account) (cond t (payment paid_out parts account ∷ payments_of paid_out parts accounts) (payments_of paid_out parts accounts))) ≡ true
    by_test true rest =
        and_from (not (list_any (bytes_eq account) (paid_accounts paid_out parts accounts))) (are_distinct (paid_accounts paid_out parts accounts))
        (not_from_false (list_any (bytes_eq account) (paid_accounts paid_out parts accounts))
        (absent-payments account paid_out parts accounts (not-true (list_any (bytes_eq account) accounts) apart.0)))
        rest
    by_test false rest = rest

-- a quotient is its exact share, rounded down
pub quotient_rounds : (paid_out all weight : ℕ) → 0 < all → (paid_out * weight / all * all ≤ paid_out * weight) × (paid_out * weight < (paid_out * weight / all + 1) * all)
quotient_rounds paid_out all weight some =
    let below : paid_out * weight / all * all ≤ paid_out * weight = div-mul-le_self (paid_out * weight) all in
    let above : paid_out * weight < paid_out * weight / all * all + all = lt-div-mul-add some in
    let spread : (paid_out * weight / all + 1) * all ≡ paid_out * weight / all * all + all = turned (paid_out * weight / all) all in
    (below, subst (λ n. paid_out * weight < n) (sym spread) above)
  where
    turned : (q w : ℕ) → (q + 1) * w ≡ q * w + w
    turned q w = omega arith

pub payment_rounds : (paid_out : ℕ) (parts : List Part) (account : List ℕ) → 0 < all_weights parts
    → IsRoundedDown paid_out (all_weights parts) (payment paid_out parts account)
payment_rounds paid_out parts account some =
    let rounds : (paid_out * weight account parts / all_weights parts * all_weights parts ≤ paid_out * weight account parts)
    × (paid_out * weight account parts < (paid_out * weight account parts / all_weights parts + 1) * all_weights parts) =
    quotient_rounds paid_out (all_weights parts) (weight account parts) some in
    record { at_most = rounds.0; nearly = rounds.1 }

-- no weight, no amount
pub nothing_paid : (paid_out all weight : ℕ) → weight ≡ 0 → paid_out * weight / all ≡ 0
nothing_paid paid_out all weight none = ap (λ n. n / all) (product none) ∙ zero-div all where
  product : weight ≡ 0 → paid_out * weight ≡ 0
  product e = ap (λ n. paid_out * n) e ∙ last
    where
      last : paid_out * 0 ≡ 0
      last = omega arith

-- all amounts and all weights
abbrev pub amounts : List Payment → ℕ
amounts payments = sum_by (λ paid. paid.amount) payments

abbrev pub weights : List Payment → ℕ
weights payments = sum_by (λ paid. paid.weight) payments

-- one payment more
below_more : (d w a v b u : ℕ) → a * w ≤ d * v → b * w ≤ d * u → (a + b) * w ≤ d * (v + u)
below_more d w a v b u first rest = omega (arith, first, rest)

above_more : (d w a v b u n : ℕ) → d * v < (a + 1) * w → d * u + n ≤ (b + n) * w → d * (v + u) + (n + 1) ≤ (a + b + (n + 1)) * w
above_more d w a v b u n first rest = omega (arith, first, rest)

-- the amounts are below their exact shares, by less than one each
pub below : (paid_out all : ℕ) (payments : List Payment) → AllByRecursion (IsRoundedDown paid_out all) payments
    → amounts payments * all ≤ paid_out * weights payments
below paid_out all [] each = omega arith
below paid_out all (paid ∷ payments) each =
    subst (λ n. n * all ≤ paid_out * weights (paid ∷ payments)) (sym (sum_by-cons (λ paid. paid.amount) paid payments))
    (subst (λ n. (paid.amount + amounts payments) * all ≤ paid_out * n) (sym (sum_by-cons (λ paid. paid.weight) paid payments))
    (below_more paid_out all paid.amount paid.weight (amounts payments) (weights payments) each.0.at_most (below paid_out all payments each.1)))

pub above : (paid_out all : ℕ) (payments : List Payment) → AllByRecursion (IsRoundedDown paid_out all) payments
    → paid_out * weights payments + length payments ≤ (amounts payments + length payments) * all
above paid_out all [] each = omega arith
above paid_out all (paid ∷ payments) each =
    let grown : paid_out * (paid.weight + weights payments) + (length payments + 1) ≤ (paid.amount + amounts payments + (length payments + 1)) * all =
    above_more paid_out all paid.amount paid.weight (amounts payments) (weights payments) (length payments) each.0.nearly (above paid_out all payments each.1) in
    let long : length (paid ∷ payments) ≡ length payments + 1 = omega arith in
    subst (λ n. paid_out * weights (paid ∷ payments) + n ≤ (amounts (paid ∷ payments) + n) * all) (sym long)
    (subst (λ n. paid_out * weights (paid ∷ payments) + (length payments + 1) ≤ (n + (length payments + 1)) * all) (sym (sum_by-cons (λ paid. paid.amount) paid payments))
    (subst (λ n. paid_out * n + (length payments + 1) ≤ (paid.amount + amounts payments + (length payments + 1)) * all) (sym (sum_by-cons (λ paid. paid.weight) paid payments)) grown))

-- so not more is paid than is paid out, and less than one for each payment is left
pub not_more : (paid_out all : ℕ) (payments : List Payment) → AllByRecursion (IsRoundedDown paid_out all) payments
    → weights payments ≡ all → 0 < all → amounts payments ≤ paid_out
not_more paid_out all payments each whole some =
    le_of_mul-le-mul_right (subst (λ n. amounts payments * all ≤ paid_out * n) whole (below paid_out all payments each)) some

pub some_paid : (payments : List Payment) → 0 < weights payments → 1 ≤ length payments
some_paid [] some = omega (arith, some)
some_paid (paid ∷ payments) some = omega arith

pub little_left : (paid_out all : ℕ) (payments : List Payment) → AllByRecursion (IsRoundedDown paid_out all) payments
    → weights payments ≡ all → 0 < all → paid_out < amounts payments + length payments
little_left paid_out all payments each whole some =
    let some_weight : 0 < weights payments = subst (λ n. 0 < n) (sym whole) some in
    let more : paid_out * all + length payments ≤ (amounts payments + length payments) * all =
    subst (λ n. paid_out * n + length payments ≤ (amounts payments + length payments) * all) whole (above paid_out all payments each) in
    lt_of_mul-lt-mul_right all (omega (arith, more, some_paid payments some_weight))
