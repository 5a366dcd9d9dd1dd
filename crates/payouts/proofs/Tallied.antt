-- What holds of a tally's parts, over a push.
use Rattle.std.proofs.Common.{◌≡◌, ℕ, ◌+◌, ◌<◌, ◌≤◌, suc, zero, Bool, true, false, cond, bytes_eq, Option, None, Some, List, [], ◌∷◌, ◌++◌, length, replicate, refl, sym, ap, ap₂, ◌∙◌, subst, arith}
use Rattle.std.specs.List.{AllByRecursion, list_any}
use Rattle.std.proofs.lemmas.List.{length-append, length-replicate}
use Rattle.std.proofs.lemmas.List.Sums.{sum_by-cons}
use Rattle.payout_laws.proofs.Sums.{all-append, all-weaker}
use Rattle.pool_history.specs.Settling.{with_account}
use Rattle.payouts.specs.declared.window.Kept.{Kept}
use Rattle.payouts.specs.Settlements.{weights_behind}
use Rattle.payouts.specs.Sums.{blocks_by}
use Rattle.payouts.specs.Tallies.{AddsCredit, HasRoundsByRule, IsFilled, IsTallied, KeepsCredits, account_place, round_works_by, weights_by, with_newcomer}
use Rattle.payouts.specs.Weights.{AreAtMost}
use Rattle.payouts.specs.Window.{IsKeptCredit, IsCreditWindow, added, weights_sum, weights_of}
use Rattle.payouts.proofs.Added.{length-weights_of}
use Rattle.payouts.proofs.Placed.{place-most, place-within}

-- one weight more, of 0
pub added-more : (ns : List ℕ) (i x : ℕ) → i < length ns → added (ns ++ 0 ∷ []) i x ≡ added ns i x ++ 0 ∷ []
added-more [] i x within = absurd (none within) where
  none : i < 0 → ⊥
  none l = omega (arith, l)
added-more (n ∷ ns) zero x within = refl
added-more (n ∷ ns) (suc i) x within = ap (λ ms. n ∷ ms) (added-more ns i x below) where
  below : i < length ns
  below = omega (arith, within)

replicate-more : (n : ℕ) → replicate {A = ℕ} (suc n) 0 ≡ replicate {A = ℕ} n 0 ++ 0 ∷ []
replicate-more zero = refl
replicate-more (suc n) = ap (λ ms. 0 ∷ ms) (replicate-more n)

pub weights_of-more : (n : ℕ) (kept : List Kept) → AllByRecursion (IsKeptCredit n) kept → weights_of (suc n) kept ≡ weights_of n kept ++ 0 ∷ []
weights_of-more n [] each = replicate-more n
weights_of-more n (k ∷ newer) each =
    ap (λ ns. added ns k.place k.part) (weights_of-more n newer each.1)
    ∙ added-more (weights_of n newer) k.place k.part (subst (λ m. k.place < m) (sym (length-weights_of n newer)) each.0.known)

pub total-more : (ns : List ℕ) → weights_sum (ns ++ 0 ∷ []) ≡ weights_sum ns
total-more [] = refl
total-more (n ∷ ns) = omega (arith, sum_by-cons (λ (m : ℕ). m) n (ns ++ 0 ∷ []), sum_by-cons (λ (m : ℕ). m) n ns, total-more ns)

length-more : (ns : List ℕ) → length (ns ++ 0 ∷ []) ≡ suc (length ns)
length-more [] = refl
length-more (n ∷ ns) = ap (λ m. suc m) (length-more ns)

pub window-more : (kept : List Kept) (weights : List ℕ) → IsCreditWindow kept weights → IsCreditWindow kept (weights ++ 0 ∷ [])
window-more kept weights is = record {
  each = subst (λ n. AllByRecursion (IsKeptCredit n) kept) (sym (length-more weights)) (all-weaker (IsKeptCredit (length weights)) (IsKeptCredit (suc (length weights))) kept (λ k one. record { known = wider k one; some = one.some }) is.each);
  weighed = subst (λ n. weights ++ 0 ∷ [] ≡ weights_of n kept) (sym (length-more weights)) (ap (λ ns. ns ++ 0 ∷ []) is.weighed ∙ sym (weights_of-more (length weights) kept is.each));
} where
  wider : (k : Kept) → IsKeptCredit (length weights) k → k.place < suc (length weights)
  wider k one = omega (arith, one.known)

pub total-with_newcomer : (account : List ℕ) (accounts : List (List ℕ)) (weights : List ℕ) → weights_sum (with_newcomer account accounts weights) ≡ weights_sum weights
total-with_newcomer account accounts weights = by_test (list_any (bytes_eq account) accounts) where
  by_test : (t : Bool) → weights_sum (cond t weights (weights ++ 0 ∷ [])) ≡ weights_sum weights
  by_test true = refl
  by_test false = total-more weights

-- what is kept of credits stays
keeps-more : (window : Option ℕ) (kept : List Kept) (weights : List ℕ) → KeepsCredits window kept weights → KeepsCredits window kept (weights ++ 0 ∷ [])
keeps-more None kept weights keeps = keeps
keeps-more (Some window) kept weights keeps = record {
  some = keeps.some;
  weighed = window-more kept weights keeps.weighed;
  within = subst (λ n. n ≤ window) (sym (total-more weights)) keeps.within;
}

pub keeps-with_newcomer : (window : Option ℕ) (account : List ℕ) (accounts : List (List ℕ)) (kept : List Kept) (weights : List ℕ) → KeepsCredits window kept weights
    → KeepsCredits window kept (with_newcomer account accounts weights)
keeps-with_newcomer window account accounts kept weights keeps = by_test (list_any (bytes_eq account) accounts) where
  by_test : (t : Bool) → KeepsCredits window kept (cond t weights (weights ++ 0 ∷ []))
  by_test true = keeps
  by_test false = keeps-more window kept weights keeps

-- accounts stay short
pub short-with_account : (account : List ℕ) (accounts : List (List ℕ)) → length account ≤ 255 → AllByRecursion (λ (a : List ℕ). length a ≤ 255) accounts
    → AllByRecursion (λ (a : List ℕ). length a ≤ 255) (with_account account accounts)
short-with_account account accounts one all = by_test (list_any (bytes_eq account) accounts) where
  by_test : (t : Bool) → AllByRecursion (λ (a : List ℕ). length a ≤ 255) (cond t accounts (accounts ++ account ∷ []))
  by_test true = all
  by_test false = all-append (λ (a : List ℕ). length a ≤ 255) accounts (account ∷ []) all (one, tt)

-- a window with the credit that enters it
pub each-push : (account : List ℕ) (work : ℕ) (accounts : List (List ℕ)) (weights : List ℕ) (kept : List Kept) → 1 ≤ work → length weights ≡ length accounts → IsCreditWindow kept weights
    → AllByRecursion (IsKeptCredit (length (with_newcomer account accounts weights))) (kept ++ record { place = account_place accounts account; part = work } ∷ [])
each-push account work accounts weights kept some long is = by_test (list_any (bytes_eq account) accounts) refl where
  by_test : (t : Bool) → list_any (bytes_eq account) accounts ≡ t
      → AllByRecursion (IsKeptCredit (length (cond t weights (weights ++ 0 ∷ [])))) (kept ++ record { place = account_place accounts account; part = work } ∷ [])
  by_test true e = all-append (IsKeptCredit (length weights)) kept (record { place = account_place accounts account; part = work } ∷ []) is.each
      (record { known = subst (λ n. account_place accounts account < n) (sym long) (place-within account accounts e); some = some }, tt)
  by_test false e = all-append (IsKeptCredit (length (weights ++ 0 ∷ []))) kept (record { place = account_place accounts account; part = work } ∷ []) (window-more kept weights is).each
      (record { known = omega (arith, place-most account accounts, length-more weights, long); some = some }, tt)

-- numbers by accounts, with a newcomer's
pub newcomer-long : (account : List ℕ) (accounts : List (List ℕ)) (ns : List ℕ) → length ns ≡ length accounts → length (with_newcomer account accounts ns) ≡ length (with_account account accounts)
newcomer-long account accounts ns long = by_test (list_any (bytes_eq account) accounts) where
  by_test : (t : Bool) → length (cond t ns (ns ++ 0 ∷ [])) ≡ length (cond t accounts (accounts ++ account ∷ []))
  by_test true = long
  by_test false = omega (arith, long, length-append ns (0 ∷ []), length-append accounts (account ∷ []))

pub newcomer-within : (account : List ℕ) (accounts : List (List ℕ)) (ns : List ℕ) → length ns ≡ length accounts → account_place accounts account < length (with_newcomer account accounts ns)
newcomer-within account accounts ns long = by_test (list_any (bytes_eq account) accounts) refl where
  by_test : (t : Bool) → list_any (bytes_eq account) accounts ≡ t → account_place accounts account < length (cond t ns (ns ++ 0 ∷ []))
  by_test true e = omega (arith, place-within account accounts e, long)
  by_test false e = omega (arith, place-most account accounts, length-append ns (0 ∷ []), long)

-- what a block leaves
pub behind-long : (window : Option ℕ) (weights : List ℕ) → length (weights_behind window weights) ≡ length weights
behind-long None weights = length-replicate (length weights) 0
behind-long (Some window) weights = refl

pub behind-keeps : (window : Option ℕ) (kept : List Kept) (weights weights' : List ℕ) → weights' ≡ weights_behind window weights → KeepsCredits window kept weights → KeepsCredits window kept weights'
behind-keeps None kept weights weights' is keeps = keeps
behind-keeps (Some window) kept weights weights' is keeps = subst (IsFilled window kept) (sym is) keeps

-- one push more may become a block
pub few-pushed : (blocks blocks' pushes : ℕ) (unsettled : Bool) → blocks' ≡ blocks → blocks_by blocks unsettled ≤ pushes → blocks_by blocks' true ≤ pushes + 1
few-pushed blocks blocks' pushes true same few = omega (arith, same, few)
few-pushed blocks blocks' pushes false same few = omega (arith, same, few)

-- the running weights are those that a tally shows
pub weights-kept : (window : Option ℕ) (accounts : List (List ℕ)) (weights : List ℕ) (kept : List Kept) → length weights ≡ length accounts → KeepsCredits window kept weights
    → weights ≡ weights_by window (length accounts) (round_works_by window weights) kept
weights-kept None accounts weights kept long keeps = refl
weights-kept (Some window) accounts weights kept long keeps = keeps.weighed.weighed ∙ ap (λ n. weights_of n kept) long

pub weights-shown : (window : Option ℕ) (accounts : List (List ℕ)) (weights : List ℕ) (kept : List Kept) (sum pushes : ℕ) (unsettled : Bool)
    → IsTallied window accounts weights kept sum pushes unsettled → weights ≡ weights_by window (length accounts) (round_works_by window weights) kept
weights-shown window accounts weights kept sum pushes unsettled is = weights-kept window accounts weights kept is.same_length is.keeps

pub rounds-shown : (window : Option ℕ) (weights : List ℕ) → HasRoundsByRule window (round_works_by window weights)
rounds-shown None weights = tt
rounds-shown (Some window) weights = refl

-- so is what a push adds to them
pub adds-shown : (window : Option ℕ) (kept kept' : List Kept) (before weights numbers' weights' : List ℕ) (place place' work : ℕ) → before ≡ weights → place ≡ place' → numbers' ≡ weights'
    → AddsCredit window kept before (record { place = place; part = work }) kept' numbers' → AddsCredit window kept weights (record { place = place'; part = work }) kept' weights'
adds-shown window kept kept' before weights numbers' weights' place place' work was at is adds =
    subst (λ ws. AddsCredit window kept weights (record { place = place'; part = work }) kept' ws) is
    (subst (λ p. AddsCredit window kept weights (record { place = p; part = work }) kept' numbers') at
    (subst (λ ws. AddsCredit window kept ws (record { place = place; part = work }) kept' numbers') was adds))

pub most-shown : (before weights numbers' weights' : List ℕ) (place place' work : ℕ) → before ≡ weights → place ≡ place' → numbers' ≡ weights' → AreAtMost numbers' (added before place work)
    → AreAtMost weights' (added weights place' work)
most-shown before weights numbers' weights' place place' work was at is most =
    subst (λ ws. AreAtMost ws (added weights place' work)) is (subst (AreAtMost numbers') (ap₂ (λ ns p. added ns p work) was at) most)

-- so is what a block leaves of them
pub behind-shown : (window : Option ℕ) (weights weights' : List ℕ) → weights' ≡ weights_behind window weights
    → round_works_by window weights' ≡ weights_behind window (round_works_by window weights)
behind-shown None weights weights' is = is
behind-shown (Some window) weights weights' is = refl
