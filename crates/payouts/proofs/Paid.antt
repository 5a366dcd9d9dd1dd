-- One account more is paid.
use Rattle.std.proofs.Common.{◌-◌, ap₂, ◌≡◌, ℕ, ◌+◌, ◌*◌, ◌/◌, ◌<◌, ◌≤◌, Bool, true, false, cond, get_or, nat_lt, List, [], ◌∷◌, ◌++◌, sum_by, refl, sym, ap, ◌∙◌, subst, arith, le_of_mul-le-mul_right}
use Rattle.std.proofs.lemmas.Bool.{ltb-false}
use Rattle.std.proofs.lemmas.List.{append_assoc}
use Rattle.std.proofs.lemmas.List.Sums.{sum_by-append}
use Rattle.payout_laws.proofs.Shares.{nothing_paid}
use Rattle.pool_history.specs.Settling.{Payment, Settled, settled_with}
use Rattle.payouts.specs.declared.settlement.Listed.{Listed}
use Rattle.payouts.specs.Settlements.{payments_by}
use Rattle.payouts.specs.Sheets.{AreListed, balances_with, listed_weights, payments_to}
use Rattle.payouts.specs.Window.{added}

pub first-split : (paid_out all : ℕ) (account : List ℕ) (accounts : List (List ℕ)) (weight : ℕ) (weights : List ℕ)
    → payments_by paid_out all (account ∷ accounts) (weight ∷ weights)
    ≡ payments_by paid_out all (account ∷ []) (weight ∷ []) ++ payments_by paid_out all accounts weights
first-split paid_out all account accounts weight weights = by_test (nat_lt 0 weight) where
  by_test : (t : Bool) → cond t (record { account = account; weight = weight; amount = paid_out * weight / all } ∷ payments_by paid_out all accounts weights) (payments_by paid_out all accounts weights)
      ≡ cond t (record { account = account; weight = weight; amount = paid_out * weight / all } ∷ []) [] ++ payments_by paid_out all accounts weights
  by_test true = refl
  by_test false = refl

first-amount : (paid_out all : ℕ) (account : List ℕ) (weight : ℕ)
    → sum_by (λ (paid : Payment). paid.amount) (payments_by paid_out all (account ∷ []) (weight ∷ [])) ≡ paid_out * weight / all
first-amount paid_out all account weight = by_test (nat_lt 0 weight) refl where
  by_test : (t : Bool) → nat_lt 0 weight ≡ t
      → sum_by (λ (paid : Payment). paid.amount) (cond t (record { account = account; weight = weight; amount = paid_out * weight / all } ∷ []) []) ≡ paid_out * weight / all
  by_test true e = omega arith
  by_test false e = sym (nothing_paid paid_out all weight zero) where
    zero : weight ≡ 0
    zero = omega (arith, ltb-false 0 weight e)

-- the payouts so far, with those that are left
pub paid-more : (paid_out all : ℕ) (ws : List ℕ) (l : Listed) (account : List ℕ) (weight : ℕ) (before left : List Listed) (items items' : List Payment)
    → before ≡ l ∷ left → account ≡ l.account → weight ≡ get_or ws l.place 0
    → items' ≡ items ++ payments_by paid_out all (account ∷ []) (weight ∷ [])
    → items' ++ payments_to paid_out all ws left ≡ items ++ payments_to paid_out all ws before
paid-more paid_out all ws l account weight before left items items' is same read grown =
    ap (λ xs. xs ++ payments_to paid_out all ws left) grown
    ∙ append_assoc items (payments_by paid_out all (account ∷ []) (weight ∷ [])) (payments_to paid_out all ws left)
    ∙ ap₂ (λ a w. items ++ (payments_by paid_out all (a ∷ []) (w ∷ []) ++ payments_to paid_out all ws left)) same read
    ∙ ap (λ xs. items ++ payments_to paid_out all ws xs) (sym is)

pub balances-more : (paid_out all : ℕ) (ws : List ℕ) (l : Listed) (amount : ℕ) (before left : List Listed) (balances balances' : List ℕ)
    → before ≡ l ∷ left → amount ≡ paid_out * get_or ws l.place 0 / all → balances' ≡ added balances l.place amount
    → balances_with paid_out all ws left balances' ≡ balances_with paid_out all ws before balances
balances-more paid_out all ws l amount before left balances balances' is same grown =
    ap (balances_with paid_out all ws left) (grown ∙ ap (added balances l.place) same) ∙ ap (λ xs. balances_with paid_out all ws xs balances) (sym is)

pub next_listed : (n : ℕ) (l : Listed) (before left : List Listed) → before ≡ l ∷ left → AreListed n before → (l.place < n) × AreListed n left
next_listed n l before left is are = subst (AreListed n) is are

pub next_weights : (ws : List ℕ) (l : Listed) (before left : List Listed) → before ≡ l ∷ left → listed_weights ws before ≡ get_or ws l.place 0 + listed_weights ws left
next_weights ws l before left is = ap (listed_weights ws) is

pub sum-more : (paid_out all : ℕ) (account : List ℕ) (weight sum amount : ℕ) (items items' : List Payment)
    → items' ≡ items ++ payments_by paid_out all (account ∷ []) (weight ∷ []) → sum ≡ sum_by (λ (paid : Payment). paid.amount) items → amount ≡ paid_out * weight / all
    → sum + amount ≡ sum_by (λ (paid : Payment). paid.amount) items'
sum-more paid_out all account weight sum amount items items' grown was is =
    omega (
      arith,
      was,
      is,
      first-amount paid_out all account weight,
      ap (sum_by (λ (paid : Payment). paid.amount)) grown,
      sum_by-append (λ (paid : Payment). paid.amount) items (payments_by paid_out all (account ∷ []) (weight ∷ [])),
    )

spread : (d all sum amount weight rest : ℕ) → sum * all + d * (weight + rest) ≤ d * all → amount * all ≤ d * weight → (sum + amount) * all + d * rest ≤ d * all
spread d all sum amount weight rest before within = omega (arith, before, within)

pub bounded-more : (paid_out all sum amount : ℕ) (ws : List ℕ) (l : Listed) (before left : List Listed) → before ≡ l ∷ left
    → sum * all + paid_out * listed_weights ws before ≤ paid_out * all → amount * all ≤ paid_out * get_or ws l.place 0
    → (sum + amount) * all + paid_out * listed_weights ws left ≤ paid_out * all
bounded-more paid_out all sum amount ws l before left is before-bound one =
    spread paid_out all sum amount (get_or ws l.place 0) (listed_weights ws left)
    (subst (λ n. sum * all + paid_out * n ≤ paid_out * all) (next_weights ws l before left is) before-bound) one

pub at_most : (paid_out all sum rest : ℕ) → 1 ≤ all → sum * all + rest ≤ paid_out * all → sum ≤ paid_out
at_most paid_out all sum rest some bound = le_of_mul-le-mul_right (omega (arith, bound)) some

-- what isn't paid stays with the pool
pub closed : (reward fee fee' paid : ℕ) (payments payments' : List Payment) → fee ≡ fee' → payments ≡ payments'
    → paid ≡ sum_by (λ (payment : Payment). payment.amount) payments → fee ≤ reward → paid ≤ reward - fee
    → ◌≡◌ {A = Settled} (record { fee = fee; payments = payments; pool = reward - paid }) (settled_with reward fee' payments')
closed reward fee fee' paid payments payments' same_fee same is within enough =
    ap (λ pool. record { fee = fee; payments = payments; pool = pool }) rest ∙ ap₂ (settled_with reward) same_fee same
  where
    rest : reward - paid ≡ fee + (reward - fee - sum_by (λ (payment : Payment). payment.amount) payments)
    rest = omega (arith, is, within, enough)
