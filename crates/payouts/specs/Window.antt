-- What the window of PPLNS holds (Rosenfeld, "Analysis of Bitcoin Pooled Mining Reward Systems",
-- has the idea; the window of work and the cut of the oldest credit are this project's own).
-- Accounts go by their places in the order of their first push.
use Rattle.std.specs.Prelude.{◌≡◌, ℕ, ◌+◌, ◌-◌, ◌<◌, ◌≤◌, suc, zero, if◌then◌else◌, List, [], ◌∷◌, length, nat_le, replicate, sum_by}
use Rattle.std.specs.List.{AllByRecursion}
use Rattle.payouts.specs.declared.window.Kept.{Kept}

-- a number more at a place
abbrev pub added : List ℕ → ℕ → ℕ → List ℕ
added [] place x = []
added (n ∷ ns) zero x = (n + x) ∷ ns
added (n ∷ ns) (suc place) x = n ∷ added ns place x

-- the weights of so many accounts by the credits in the window
abbrev pub weights_of : ℕ → List Kept → List ℕ
weights_of accounts [] = replicate accounts 0
weights_of accounts (kept ∷ newer) = added (weights_of accounts newer) kept.place kept.part

-- the sum of weights
abbrev pub weights_sum : List ℕ → ℕ
weights_sum weights = sum_by (λ weight. weight) weights

-- a credit of one of so many accounts, with some work left
pub record IsKeptCredit (accounts : ℕ) (kept : Kept) : Type 0 where
  pub known : kept.place < accounts
  pub some : 1 ≤ kept.part

-- the weights are those of the credits
pub record IsCreditWindow (all_kept : List Kept) (weights : List ℕ) : Type 0 where
  pub each : AllByRecursion (IsKeptCredit (length weights)) all_kept
  pub weighed : weights ≡ weights_of (length weights) all_kept

-- what is left of the credits, the oldest first, where so much work of the oldest goes
abbrev pub without_oldest : ℕ → List Kept → List Kept
without_oldest excess [] = []
without_oldest excess (kept ∷ newer) =
    if nat_le kept.part excess then without_oldest (excess - kept.part) newer
    else record { place = kept.place; part = kept.part - excess } ∷ newer
