-- Accounts and their places, and weights by them.
use Rattle.std.proofs.Common.{◌≡◌, ℕ, ◌+◌, ◌<◌, ◌≤◌, ◌||◌, suc, Bool, true, false, not, cond, bytes_eq, filter, map, nat_lt, List, [], ◌∷◌, ◌++◌, length, replicate, reverse, refl, sym, ap, ap₂, ◌∙◌, subst, arith}
use Rattle.std.specs.List.{AllByRecursion, list_any}
use Rattle.std.proofs.lemmas.Bool.{and_parts, ltb-false, ltb-true, not-true, or_parts, false≢true}
use Rattle.std.proofs.lemmas.List.{reverse-append}
use Rattle.std.proofs.lemmas.Slice.Eq.{bytes_eq-Decides}
use Rattle.payout_laws.proofs.Members.{IsAmong, PartsAmong, bytes_eq-self}
use Rattle.payout_laws.proofs.Sums.{sum_by-kept}
use Rattle.pool_history.specs.Accounts.{are_distinct}
use Rattle.pool_history.specs.Settling.{Part, weight, with_account}
use Rattle.payouts.specs.declared.window.Kept.{Kept}
use Rattle.payouts.specs.Tallies.{account_place, placed, with_newcomer}
use Rattle.payouts.specs.Window.{IsKeptCredit, added, weights_of}
use Rattle.payouts.proofs.Added.{added-none, weights_of-push}

-- a place behind the first
place-later : (t : Bool) (n : ℕ) → t ≡ false → cond (not t) (1 + n) 0 ≡ suc n
place-later false n e = omega arith
place-later true n e = cc

pub place-first : (b a : List ℕ) (accounts : List (List ℕ)) → bytes_eq b a ≡ true → account_place (a ∷ accounts) b ≡ 0
place-first b a accounts e = ap (λ t. cond (not t) (1 + account_place accounts b) 0) e

pub place-next : (b a : List ℕ) (accounts : List (List ℕ)) → bytes_eq b a ≡ false → account_place (a ∷ accounts) b ≡ suc (account_place accounts b)
place-next b a accounts e = place-later (bytes_eq b a) (account_place accounts b) e

-- numbers by accounts, one of which grows
map-absent : (f : List ℕ → ℕ) (b : List ℕ) (p : ℕ) (accounts : List (List ℕ)) → list_any (bytes_eq b) accounts ≡ false
    → map f accounts ≡ map (λ a. f a + cond (bytes_eq b a) p 0) accounts
map-absent f b p [] none = refl
map-absent f b p (a ∷ accounts) none =
    let parts : (bytes_eq b a ≡ false) × (list_any (bytes_eq b) accounts ≡ false) = or_parts (bytes_eq b a) (list_any (bytes_eq b) accounts) none in
    ap₂ (λ n ns. n ∷ ns) (same (bytes_eq b a) parts.0) (map-absent f b p accounts parts.1)
  where
    same : (t : Bool) → t ≡ false → f a ≡ f a + cond t p 0
    same false e = omega arith
    same true e = cc

pub added-map : (f : List ℕ → ℕ) (b : List ℕ) (p : ℕ) (accounts : List (List ℕ)) → are_distinct accounts ≡ true → list_any (bytes_eq b) accounts ≡ true
    → added (map f accounts) (account_place accounts b) p ≡ map (λ a. f a + cond (bytes_eq b a) p 0) accounts
added-map f b p [] distinct there = absurd (false≢true there)
added-map f b p (a ∷ accounts) distinct there = by_test (bytes_eq b a) refl (added-map f b p accounts apart.1) where
  apart : (not (list_any (bytes_eq a) accounts) ≡ true) × (are_distinct accounts ≡ true)
  apart = and_parts (not (list_any (bytes_eq a) accounts)) (are_distinct accounts) distinct

  by_test : (t : Bool) → bytes_eq b a ≡ t
      → (list_any (bytes_eq b) accounts ≡ true → added (map f accounts) (account_place accounts b) p ≡ map (λ a. f a + cond (bytes_eq b a) p 0) accounts)
      → added (map f (a ∷ accounts)) (account_place (a ∷ accounts) b) p ≡ map (λ a. f a + cond (bytes_eq b a) p 0) (a ∷ accounts)
  by_test true e more =
      let same : b ≡ a = (bytes_eq-Decides b a).0 e in
      let none : list_any (bytes_eq b) accounts ≡ false = ap (λ c. list_any (bytes_eq c) accounts) same ∙ not-true (list_any (bytes_eq a) accounts) apart.0 in
      ap (λ i. added (f a ∷ map f accounts) i p) (place-first b a accounts e)
      ∙ ap₂ (λ n ns. n ∷ ns) (ap (λ t. f a + cond t p 0) (sym e)) (map-absent f b p accounts none)
  by_test false e more =
      ap (λ i. added (f a ∷ map f accounts) i p) (place-next b a accounts e)
      ∙ ap₂ (λ n ns. n ∷ ns) (unchanged (bytes_eq b a) e) (more (later (bytes_eq b a) e there))
    where
      unchanged : (t : Bool) → t ≡ false → f a ≡ f a + cond t p 0
      unchanged false e = omega arith
      unchanged true e = cc

      later : (t : Bool) → t ≡ false → (t || list_any (bytes_eq b) accounts) ≡ true → list_any (bytes_eq b) accounts ≡ true
      later false e is = is
      later true e is = cc

-- places stay while accounts are put behind them
pub place-end : (a : List ℕ) (accounts : List (List ℕ)) → account_place (accounts ++ a ∷ []) a ≡ account_place accounts a
place-end a [] = ap (λ t. cond (not t) 1 0) (bytes_eq-self a)
place-end a (x ∷ accounts) = ap (λ n. cond (not (bytes_eq a x)) (1 + n) 0) (place-end a accounts)

place-before : (a b : List ℕ) (accounts : List (List ℕ)) → IsAmong accounts b → account_place (accounts ++ a ∷ []) b ≡ account_place accounts b
place-before a b [] there = absurd (false≢true there)
place-before a b (x ∷ accounts) there = by_test (bytes_eq b x) refl there (place-before a b accounts) where
  by_test : (t : Bool) → bytes_eq b x ≡ t → (t || list_any (bytes_eq b) accounts) ≡ true
      → (IsAmong accounts b → account_place (accounts ++ a ∷ []) b ≡ account_place accounts b) → account_place (x ∷ accounts ++ a ∷ []) b ≡ account_place (x ∷ accounts) b
  by_test true e is more = place-first b x (accounts ++ a ∷ []) e ∙ sym (place-first b x accounts e)
  by_test false e is more =
      place-next b x (accounts ++ a ∷ []) e ∙ ap (λ n. suc n) (more is) ∙ sym (place-next b x accounts e)

pub place-with_account : (a : List ℕ) (accounts : List (List ℕ)) → account_place (with_account a accounts) a ≡ account_place accounts a
place-with_account a accounts = by_test (list_any (bytes_eq a) accounts) where
  by_test : (t : Bool) → account_place (cond t accounts (accounts ++ a ∷ [])) a ≡ account_place accounts a
  by_test true = refl
  by_test false = place-end a accounts

pub place-stays : (a b : List ℕ) (accounts : List (List ℕ)) → IsAmong accounts b → account_place (with_account a accounts) b ≡ account_place accounts b
place-stays a b accounts there = by_test (list_any (bytes_eq a) accounts) where
  by_test : (t : Bool) → account_place (cond t accounts (accounts ++ a ∷ [])) b ≡ account_place accounts b
  by_test true = refl
  by_test false = place-before a b accounts there

pub placed-stays : (a : List ℕ) (accounts : List (List ℕ)) (parts : List Part) → PartsAmong accounts parts → placed (with_account a accounts) parts ≡ placed accounts parts
placed-stays a accounts [] among = refl
placed-stays a accounts (part ∷ parts) among =
    ap₂ (λ place rest. cond (nat_lt 0 part.weight) (record { place = place; part = part.weight } ∷ rest) rest)
    (place-stays a part.account accounts among.0) (placed-stays a accounts parts among.1)

-- a new account's weight
pub map-with_account : (f : List ℕ → ℕ) (a : List ℕ) (accounts : List (List ℕ)) → (list_any (bytes_eq a) accounts ≡ false → f a ≡ 0)
    → with_newcomer a accounts (map f accounts) ≡ map f (with_account a accounts)
map-with_account f a accounts new = by_test (list_any (bytes_eq a) accounts) new where
  behind : (xs : List (List ℕ)) → map f (xs ++ a ∷ []) ≡ map f xs ++ f a ∷ []
  behind [] = refl
  behind (x ∷ xs) = ap (λ ns. f x ∷ ns) (behind xs)

  by_test : (t : Bool) → (t ≡ false → f a ≡ 0) → cond t (map f accounts) (map f accounts ++ 0 ∷ []) ≡ map f (cond t accounts (accounts ++ a ∷ []))
  by_test true none = refl
  by_test false none = ap (λ n. map f accounts ++ n ∷ []) (sym (none refl)) ∙ sym (behind accounts)

-- a part more
pub weight-more : (a : List ℕ) (part : Part) (parts : List Part) → weight a (part ∷ parts) ≡ weight a parts + cond (bytes_eq part.account a) part.weight 0
weight-more a part parts = sum_by-kept (λ (p : Part). p.weight) (bytes_eq part.account a) part (filter (λ (p : Part). bytes_eq p.account a) parts) ∙ turned (cond (bytes_eq part.account a) part.weight 0) (weight a parts) where
  turned : (n m : ℕ) → n + m ≡ m + n
  turned n m = omega arith

pub map-same : (f g : List ℕ → ℕ) (accounts : List (List ℕ)) → ((a : List ℕ) → f a ≡ g a) → map f accounts ≡ map g accounts
map-same f g [] h = refl
map-same f g (a ∷ accounts) h = ap₂ (λ n ns. n ∷ ns) (h a) (map-same f g accounts h)

pub none-weighs : (accounts : List (List ℕ)) → replicate (length accounts) 0 ≡ map (λ a. weight a []) accounts
none-weighs [] = refl
none-weighs (a ∷ accounts) = ap (λ ns. 0 ∷ ns) (none-weighs accounts)

-- the weights of the credits in the window are those of their parts
pub weights-placed : (accounts : List (List ℕ)) (parts : List Part) → are_distinct accounts ≡ true → PartsAmong accounts parts
    → weights_of (length accounts) (placed accounts parts) ≡ map (λ a. weight a parts) accounts
weights-placed accounts [] distinct among = none-weighs accounts
weights-placed accounts (part ∷ parts) distinct among = by_test (nat_lt 0 part.weight) refl (weights-placed accounts parts distinct among.1) where
  rest : added (map (λ a. weight a parts) accounts) (account_place accounts part.account) part.weight ≡ map (λ a. weight a (part ∷ parts)) accounts
  rest = added-map (λ a. weight a parts) part.account part.weight accounts distinct among.0
      ∙ map-same (λ a. weight a parts + cond (bytes_eq part.account a) part.weight 0) (λ a. weight a (part ∷ parts)) accounts (λ a. sym (weight-more a part parts))

  by_test : (t : Bool) → nat_lt 0 part.weight ≡ t → weights_of (length accounts) (placed accounts parts) ≡ map (λ a. weight a parts) accounts
      → weights_of (length accounts) (cond t (record { place = account_place accounts part.account; part = part.weight } ∷ placed accounts parts) (placed accounts parts))
      ≡ map (λ a. weight a (part ∷ parts)) accounts
  by_test true e more = ap (λ ns. added ns (account_place accounts part.account) part.weight) more ∙ rest
  by_test false e more =
      let zero : part.weight ≡ 0 = omega (arith, ltb-false 0 part.weight e) in
      more
      ∙ sym (added-none (map (λ a. weight a parts) accounts) (account_place accounts part.account))
      ∙ ap (λ n. added (map (λ a. weight a parts) accounts) (account_place accounts part.account) n) (sym zero) ∙ rest

-- from the last to the first they are the same
pub weights_of-reverse : (n : ℕ) (all : List Kept) → weights_of n (reverse all) ≡ weights_of n all
weights_of-reverse n [] = refl
weights_of-reverse n (k ∷ newer) =
    ap (weights_of n) (reverse-append (k ∷ []) newer) ∙ weights_of-push n (reverse newer) k ∙ ap (λ ns. added ns k.place k.part) (weights_of-reverse n newer)

-- a place is among the accounts, or behind them
pub place-most : (a : List ℕ) (accounts : List (List ℕ)) → account_place accounts a ≤ length accounts
place-most a [] = omega arith
place-most a (x ∷ accounts) = by_test (bytes_eq a x) refl (place-most a accounts) where
  by_test : (t : Bool) → bytes_eq a x ≡ t → account_place accounts a ≤ length accounts → account_place (x ∷ accounts) a ≤ suc (length accounts)
  by_test true e more = subst (λ n. n ≤ suc (length accounts)) (sym (place-first a x accounts e)) (omega arith)
  by_test false e more = subst (λ n. n ≤ suc (length accounts)) (sym (place-next a x accounts e)) (omega (arith, more))

pub place-within : (a : List ℕ) (accounts : List (List ℕ)) → IsAmong accounts a → account_place accounts a < length accounts
place-within a [] there = absurd (false≢true there)
place-within a (x ∷ accounts) there = by_test (bytes_eq a x) refl there (place-within a accounts) where
  by_test : (t : Bool) → bytes_eq a x ≡ t → (t || list_any (bytes_eq a) accounts) ≡ true → (IsAmong accounts a → account_place accounts a < length accounts)
      → account_place (x ∷ accounts) a < suc (length accounts)
  by_test true e is more = subst (λ n. n < suc (length accounts)) (sym (place-first a x accounts e)) (omega arith)
  by_test false e is more = subst (λ n. n < suc (length accounts)) (sym (place-next a x accounts e)) (omega (arith, more is))

-- what is placed is of the accounts, and has some work
pub placed-each : (accounts : List (List ℕ)) (parts : List Part) → PartsAmong accounts parts → AllByRecursion (IsKeptCredit (length accounts)) (placed accounts parts)
placed-each accounts [] among = tt
placed-each accounts (part ∷ parts) among = by_test (nat_lt 0 part.weight) refl (placed-each accounts parts among.1) where
  by_test : (t : Bool) → nat_lt 0 part.weight ≡ t → AllByRecursion (IsKeptCredit (length accounts)) (placed accounts parts)
      → AllByRecursion (IsKeptCredit (length accounts)) (cond t (record { place = account_place accounts part.account; part = part.weight } ∷ placed accounts parts) (placed accounts parts))
  by_test true e more = (record { known = place-within part.account accounts among.0; some = omega (arith, ltb-true 0 part.weight e) }, more)
  by_test false e more = more
