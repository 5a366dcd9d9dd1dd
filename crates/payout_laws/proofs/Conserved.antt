-- Each block of a legal history keeps its reward, and each account is paid its quotient.
use Rattle.std.proofs.Common.{◌≡◌, ℕ, ◌+◌, ◌-◌, ◌*◌, ◌/◌, ◌<◌, ◌≤◌, min, Bool, true, false, cond, bytes_eq, sum_by, Option, None, Some, List, ◌∷◌, length, refl, sym, ap, ◌∙◌, subst, arith, mul-le-mul_left}
use Rattle.std.specs.List.{AllByRecursion, list_any}
use Rattle.std.proofs.lemmas.List.Sums.{sum_by-cons}
use Rattle.pool_history.specs.Accounts.{are_distinct}
use Rattle.pool_history.specs.Crediting.{Booked}
use Rattle.pool_history.specs.Sessions.{past_of}
use Rattle.pool_history.specs.Settling.{Part, Payment, accounts_of, all_weights, fee_of, last_work, paid_to, parts_in_block, payments_of, settlement, since_block, weight}
use Rattle.payout_laws.specs.Conservation.{IsConserved, IsRoundedDown, RewardsAreConserved}
use Rattle.payout_laws.proofs.Sums.{all-behind, bytes_eq-turned, met_never, met_once, sum_by-accounts, sum_by-filter, sum_by-same}
use Rattle.payout_laws.proofs.Members.{among-accounts_of, distinct-accounts_of, parts_of-among, weight-none}
use Rattle.payout_laws.proofs.Shares.{all-each, all-payments, amounts, distinct-payments, little_left, not_more, nothing_paid, payment_rounds, some_paid, sum_by-payments, weights}
use Rattle.payout_laws.proofs.Ranges.{HasRoom, HasWork, PaysFrom, booked-has_work, pays_from, rules-in_range}

-- a fee is no more than its reward
pub fee-le : (reward basis_points : ℕ) → basis_points ≤ 10000 → fee_of reward basis_points ≤ reward
fee-le reward basis_points part =
    let most : reward * basis_points ≤ reward * 10000 = mul-le-mul_left reward part in
    omega (arith, most)

-- the block's own credit has a weight
pub some_weight : (window : Option ℕ) (block : Booked) (older : List Booked) → HasWork block → HasRoom window
    → 0 < all_weights (parts_in_block window (block ∷ older))
some_weight None block older work room =
    omega (arith, work, sum_by-cons (λ (part : Part). part.weight) (record { account = block.account; weight = block.work }) (since_block older))
some_weight (Some window) block older work room =
    let own : 1 ≤ min block.work (window - min window 0) = omega (arith, work, room) in
    omega (arith, own, sum_by-cons (λ (part : Part). part.weight) (record { account = block.account; weight = min block.work (window - min window 0) }) (last_work window (0 + block.work) older))

-- the weights of the accounts are all weights
pub weights-payments : (paid_out : ℕ) (window : Option ℕ) (credits : List Booked)
    → weights (payments_of paid_out (parts_in_block window credits) (accounts_of credits)) ≡ all_weights (parts_in_block window credits)
weights-payments paid_out window credits =
    sum_by-payments (λ paid. paid.weight) paid_out (parts_in_block window credits) (accounts_of credits) (λ account none. none)
    ∙ sum_by-accounts (λ part. part.account) (λ part. part.weight) (accounts_of credits) (parts_in_block window credits)
    (distinct-accounts_of credits) (parts_of-among window (accounts_of credits) credits (among-accounts_of credits))

-- what is left of a reward, by numbers alone
split : (reward fee paid : ℕ) → fee ≤ reward → paid ≤ reward - fee → paid + (fee + (reward - fee - paid)) ≡ reward
split reward fee paid within enough = omega (arith, within, enough)

left : (reward fee paid n : ℕ) → paid ≤ reward - fee → reward - fee < paid + n → fee + (reward - fee - paid) - fee < n
left reward fee paid n enough little = omega (arith, enough, little)

-- a block with some weight is conserved
pub conserved : (window : Option ℕ) (basis_points reward : ℕ) (credits : List Booked) → basis_points ≤ 10000
    → 0 < all_weights (parts_in_block window credits)
    → IsConserved basis_points reward (parts_in_block window credits) (settlement window basis_points reward credits)
conserved window basis_points reward credits part some =
    let fee : ℕ = fee_of reward basis_points in
    let parts : List Part = parts_in_block window credits in
    let payments : List Payment = payments_of (reward - fee) parts (accounts_of credits) in
    let within : fee ≤ reward = fee-le reward basis_points part in
    let whole : weights payments ≡ all_weights parts = weights-payments (reward - fee) window credits in
    let rounded : AllByRecursion (IsRoundedDown (reward - fee) (all_weights parts)) payments =
    all-payments (IsRoundedDown (reward - fee) (all_weights parts)) (reward - fee) parts (accounts_of credits)
    (all-each _ (accounts_of credits) (λ account weighed. payment_rounds (reward - fee) parts account some)) in
    let enough : amounts payments ≤ reward - fee = not_more (reward - fee) (all_weights parts) payments rounded whole some in
    record {
      whole = split reward fee (amounts payments) within enough;
      fee = refl;
      fee_is_kept = kept fee (reward - fee - amounts payments);
      rest_is_small = left reward fee (amounts payments) (length payments) enough (little_left (reward - fee) (all_weights parts) payments rounded whole some);
      some = some_paid payments (subst (λ n. 0 < n) (sym whole) some);
      once = distinct-payments (reward - fee) parts (accounts_of credits) (distinct-accounts_of credits);
      weight_is = all-payments (λ paid. paid.weight ≡ weight paid.account parts) (reward - fee) parts (accounts_of credits)
          (all-each _ (accounts_of credits) (λ account weighed. refl));
      rounded = rounded;
      weighed = all-payments (λ paid. 1 ≤ paid.weight) (reward - fee) parts (accounts_of credits) (all-each _ (accounts_of credits) (λ account weighed. weighed));
      weights = whole;
    }
  where
    kept : (a b : ℕ) → a ≤ a + b
    kept a b = omega arith

-- each block of a legal history
pub rewards_conserved : RewardsAreConserved
rewards_conserved history rules block older reward legal is =
    let pays : PaysFrom rules = pays_from rules (rules-in_range (past_of history) rules legal is.rules_are) in
    let work : AllByRecursion HasWork (block ∷ older) =
    all-behind HasWork is.newer (block ∷ older) (subst (λ credits. AllByRecursion HasWork credits) is.stands (booked-has_work (past_of history))) in
    conserved rules.window rules.fee reward (block ∷ older) pays.fee (some_weight rules.window block older work.0 pays.room)

-- each account is paid the quotient of its weight
pub payouts-weighed : (window : Option ℕ) (basis_points reward : ℕ) (credits : List Booked) (account : List ℕ)
    → paid_to account (settlement window basis_points reward credits)
    ≡ (reward - fee_of reward basis_points) * weight account (parts_in_block window credits) / all_weights (parts_in_block window credits)
payouts-weighed window basis_points reward credits account =
    let paid_out : ℕ = reward - fee_of reward basis_points in
    let parts : List Part = parts_in_block window credits in
    let accounts : List (List ℕ) = accounts_of credits in
    let quotient : List ℕ → ℕ = λ (a : List ℕ). paid_out * weight a parts / all_weights parts in
    sum_by-filter (λ paid. paid.amount) (λ paid. bytes_eq paid.account account) (payments_of paid_out parts accounts)
    ∙ sum_by-payments (λ paid. cond (bytes_eq paid.account account) paid.amount 0) paid_out parts accounts
    (λ a none. unpaid (bytes_eq a account) (quotient a) (nothing_paid paid_out (all_weights parts) (weight a parts) none))
    ∙ sum_by-same (λ a. cond (bytes_eq a account) (quotient a) 0) (λ a. cond (bytes_eq account a) (quotient a) 0) accounts
    (λ a. ap (λ t. cond t (quotient a) 0) (bytes_eq-turned a account))
    ∙ by_account quotient accounts (distinct-accounts_of credits)
    (λ absent. nothing_paid paid_out (all_weights parts) (weight account parts)
    (weight-none account accounts parts (parts_of-among window accounts credits (among-accounts_of credits)) absent))
  where
    unpaid : (t : Bool) (n : ℕ) → n ≡ 0 → cond t n 0 ≡ 0
    unpaid true n e = e
    unpaid false n e = refl

    by_account : (h : List ℕ → ℕ) (accounts : List (List ℕ)) → are_distinct accounts ≡ true
        → (list_any (bytes_eq account) accounts ≡ false → h account ≡ 0)
        → sum_by (λ a. cond (bytes_eq account a) (h a) 0) accounts ≡ h account
    by_account h accounts distinct none = by_test (list_any (bytes_eq account) accounts) refl where
      by_test : (t : Bool) → list_any (bytes_eq account) accounts ≡ t → sum_by (λ a. cond (bytes_eq account a) (h a) 0) accounts ≡ h account
      by_test true there = met_once h account accounts distinct there
      by_test false absent = met_never h account accounts absent ∙ sym (none absent)
