-- The accounts of credits: each stands once, and each part of a block is one of theirs.
use Rattle.std.proofs.Common.{◌≡◌, ℕ, ◌+◌, Bool, true, false, cond, not, bytes_eq, filter, sum_by, is_some, Option, None, Some, List, [], ◌∷◌, ◌++◌, refl, sym, ap, ◌∙◌}
use Rattle.std.specs.List.{AllByRecursion, list_any}
use Rattle.std.proofs.lemmas.Bool.{and_from, and_parts, both_ways, not-true, not_from_false, or_from, or_left, or_parts, or_right}
use Rattle.std.proofs.lemmas.List.Folds.{list_any-append}
use Rattle.std.proofs.lemmas.Slice.Eq.{bytes_eq-Decides}
use Rattle.pool_history.specs.Accounts.{are_distinct}
use Rattle.pool_history.specs.Crediting.{Booked}
use Rattle.pool_history.specs.Settling.{Part, accounts_of, last_work, parts_in_block, since_block, weight, with_account}
use Rattle.payout_laws.proofs.Sums.{all-append, bytes_eq-turned}

-- an account is among others
abbrev pub IsAmong : List (List ℕ) → List ℕ → Type 0
IsAmong accounts account = list_any (bytes_eq account) accounts ≡ true

pub bytes_eq-self : (a : List ℕ) → bytes_eq a a ≡ true
bytes_eq-self a = (bytes_eq-Decides a a).1 refl

-- distinct accounts with a new one
pub distinct-end : (a : List ℕ) (accounts : List (List ℕ)) → are_distinct accounts ≡ true → list_any (bytes_eq a) accounts ≡ false
    → are_distinct (accounts ++ a ∷ []) ≡ true
distinct-end a [] distinct new = refl
distinct-end a (b ∷ bs) distinct new =
    let parts : (not (list_any (bytes_eq b) bs) ≡ true) × (are_distinct bs ≡ true) =
    and_parts (not (list_any (bytes_eq b) bs)) (are_distinct bs) distinct in
    let fresh : (bytes_eq a b ≡ false) × (list_any (bytes_eq a) bs ≡ false) = or_parts (bytes_eq a b) (list_any (bytes_eq a) bs) new in
    let none : list_any (bytes_eq b) (bs ++ a ∷ []) ≡ false =
    list_any-append (bytes_eq b) bs (a ∷ [])
    ∙ or_from (list_any (bytes_eq b) bs) (list_any (bytes_eq b) (a ∷ [])) (not-true (list_any (bytes_eq b) bs) parts.0)
    (or_from (bytes_eq b a) false (bytes_eq-turned b a ∙ fresh.0) refl) in
    and_from (not (list_any (bytes_eq b) (bs ++ a ∷ []))) (are_distinct (bs ++ a ∷ []))
    (not_from_false (list_any (bytes_eq b) (bs ++ a ∷ [])) none) (distinct-end a bs parts.1 fresh.1)

-- the accounts of credits are distinct
pub distinct-with_account : (a : List ℕ) (accounts : List (List ℕ)) → are_distinct accounts ≡ true → are_distinct (with_account a accounts) ≡ true
distinct-with_account a accounts distinct = by_test (list_any (bytes_eq a) accounts) refl where
  by_test : (t : Bool) → list_any (bytes_eq a) accounts ≡ t → are_distinct (cond t accounts (accounts ++ a ∷ [])) ≡ true
  by_test true e = distinct
  by_test false e = distinct-end a accounts distinct e

pub distinct-accounts_of : (credits : List Booked) → are_distinct (accounts_of credits) ≡ true
distinct-accounts_of [] = refl
distinct-accounts_of (credit ∷ older) = distinct-with_account credit.account (accounts_of older) (distinct-accounts_of older)

-- an account that was put in is there, and those before stay
pub among-with_account : (a : List ℕ) (accounts : List (List ℕ)) → IsAmong (with_account a accounts) a
among-with_account a accounts = by_test (list_any (bytes_eq a) accounts) refl where
  by_test : (t : Bool) → list_any (bytes_eq a) accounts ≡ t → IsAmong (cond t accounts (accounts ++ a ∷ [])) a
  by_test true e = e
  by_test false e =
      list_any-append (bytes_eq a) accounts (a ∷ [])
      ∙ or_right (list_any (bytes_eq a) accounts) (list_any (bytes_eq a) (a ∷ [])) (or_left (bytes_eq a a) false (bytes_eq-self a))

pub among-later : (a b : List ℕ) (accounts : List (List ℕ)) → IsAmong accounts b → IsAmong (with_account a accounts) b
among-later a b accounts there = by_test (list_any (bytes_eq a) accounts) where
  by_test : (t : Bool) → IsAmong (cond t accounts (accounts ++ a ∷ [])) b
  by_test true = there
  by_test false = list_any-append (bytes_eq b) accounts (a ∷ []) ∙ or_left (list_any (bytes_eq b) accounts) (list_any (bytes_eq b) (a ∷ [])) there

-- the accounts of all credits are among those of the credits
abbrev pub AreAmong : List (List ℕ) → List Booked → Type 0
AreAmong accounts credits = AllByRecursion (λ credit. IsAmong accounts credit.account) credits

pub among-more : (a : List ℕ) (accounts : List (List ℕ)) (credits : List Booked) → AreAmong accounts credits → AreAmong (with_account a accounts) credits
among-more a accounts [] all = tt
among-more a accounts (credit ∷ older) all = (among-later a credit.account accounts all.0, among-more a accounts older all.1)

pub among-accounts_of : (credits : List Booked) → AreAmong (accounts_of credits) credits
among-accounts_of [] = tt
among-accounts_of (credit ∷ older) =
    (among-with_account credit.account (accounts_of older), among-more credit.account (accounts_of older) older (among-accounts_of older))

-- and each account of theirs is among any that have all of the credits'
pub accounts_of-among : (accounts : List (List ℕ)) (credits : List Booked) → AreAmong accounts credits
    → AllByRecursion (IsAmong accounts) (accounts_of credits)
accounts_of-among accounts [] all = tt
accounts_of-among accounts (credit ∷ older) all = by_test (list_any (bytes_eq credit.account) (accounts_of older)) (accounts_of-among accounts older all.1) where
  by_test : (t : Bool) → AllByRecursion (IsAmong accounts) (accounts_of older)
      → AllByRecursion (IsAmong accounts) (cond t (accounts_of older) (accounts_of older ++ credit.account ∷ []))
  by_test true before = before
  by_test false before = all-append (IsAmong accounts) (accounts_of older) (credit.account ∷ []) before (all.0, tt)

-- each part of a block is of an account among these
abbrev pub PartsAmong : List (List ℕ) → List Part → Type 0
PartsAmong accounts parts = AllByRecursion (λ part. IsAmong accounts part.account) parts

pub since_block-among : (accounts : List (List ℕ)) (credits : List Booked) → AreAmong accounts credits → PartsAmong accounts (since_block credits)
since_block-among accounts [] all = tt
since_block-among accounts (credit ∷ older) all = by_reward (is_some credit.reward) (since_block-among accounts older all.1) where
  by_reward : (t : Bool) → PartsAmong accounts (since_block older)
      → PartsAmong accounts (cond t [] (record { account = credit.account; weight = credit.work } ∷ since_block older))
  by_reward true rest = tt
  by_reward false rest = (all.0, rest)

pub last_work-among : (window later : ℕ) (accounts : List (List ℕ)) (credits : List Booked) → AreAmong accounts credits
    → PartsAmong accounts (last_work window later credits)
last_work-among window later accounts [] all = tt
last_work-among window later accounts (credit ∷ older) all = (all.0, last_work-among window (later + credit.work) accounts older all.1)

pub parts_of-among : (window : Option ℕ) (accounts : List (List ℕ)) (credits : List Booked) → AreAmong accounts credits
    → PartsAmong accounts (parts_in_block window credits)
parts_of-among None accounts [] all = tt
parts_of-among None accounts (block ∷ older) all = (all.0, since_block-among accounts older all.1)
parts_of-among (Some window) accounts credits all = last_work-among window 0 accounts credits all

-- an account that isn't among them has no weight
pub weight-none : (account : List ℕ) (accounts : List (List ℕ)) (parts : List Part) → PartsAmong accounts parts
    → list_any (bytes_eq account) accounts ≡ false → weight account parts ≡ 0
weight-none account accounts [] all none = refl
weight-none account accounts (part ∷ parts) all none = by_test (bytes_eq part.account account) refl (weight-none account accounts parts all.1 none) where
  by_test : (t : Bool) → bytes_eq part.account account ≡ t → weight account parts ≡ 0
      → sum_by (λ part. part.weight) (cond t (part ∷ filter (λ part. bytes_eq part.account account) parts) (filter (λ part. bytes_eq part.account account) parts)) ≡ 0
  by_test false e rest = rest
  by_test true e rest =
      let same : part.account ≡ account = (bytes_eq-Decides part.account account).0 e in
      absurd (both_ways (list_any (bytes_eq account) accounts) none (sym (ap (λ a. list_any (bytes_eq a) accounts) same) ∙ all.0))
