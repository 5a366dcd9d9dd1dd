-- Who is paid what for a block (Rosenfeld, "Analysis of Bitcoin Pooled Mining Reward Systems": the
-- proportional method, and the idea of PPLNS; that credits weigh their work, the window, the cut
-- and the rounding are this project's own).
-- Computed on both rules, on windows of 1, 6 and 100 and on a block without reward
-- (`Settlements`).
use Rattle.std.specs.Prelude.{ℕ, ◌+◌, ◌-◌, ◌*◌, ◌/◌, if◌then◌else◌, min, Option, None, Some, is_some, List, [], ◌∷◌, ◌++◌, filter, map, sum_by, nat_lt}
use Rattle.std.specs.List.{list_any}
use Rattle.std.specs.Str.{bytes_eq}
use Rattle.pool_history.specs.Crediting.{Booked}

-- the part that a credit has in a block
pub record Part : Type 0 where
  pub account : List ℕ
  pub weight : ℕ

-- the part of a credit with all its work
abbrev pub whole_part : Booked → Part
whole_part credit = record { account = credit.account; weight = credit.work }

-- the credits since the last block
abbrev pub since_block : List Booked → List Part
since_block [] = []
since_block (credit ∷ older) =
    if is_some credit.reward then [] else whole_part credit ∷ since_block older

-- the proportional rule: the block's own credit, and those since the block before
abbrev pub proportional : List Booked → List Part
proportional [] = []
proportional (block ∷ older) = whole_part block ∷ since_block older

-- PPLNS: of each credit what the window has left after the work of the later ones
abbrev pub last_work : ℕ → ℕ → List Booked → List Part
last_work window later [] = []
last_work window later (credit ∷ older) =
    record { account = credit.account; weight = min credit.work (window - min window later) }
    ∷ last_work window (later + credit.work) older

-- the parts in a block, whose credit stands first; without a window by the proportional rule
abbrev pub parts_in_block : Option ℕ → List Booked → List Part
parts_in_block None credits = proportional credits
parts_in_block (Some window) credits = last_work window 0 credits

-- an account's weight
abbrev pub weight : List ℕ → List Part → ℕ
weight account parts =
    sum_by (λ part. part.weight) (filter (λ part. bytes_eq part.account account) parts)

-- the sum of all weights
abbrev pub all_weights : List Part → ℕ
all_weights parts = sum_by (λ part. part.weight) parts

-- one account more, where it isn't there
abbrev pub with_account : List ℕ → List (List ℕ) → List (List ℕ)
with_account account accounts =
    if list_any (bytes_eq account) accounts then accounts else accounts ++ account ∷ []

-- the accounts in the order of their first credit
abbrev pub accounts_of : List Booked → List (List ℕ)
accounts_of [] = []
accounts_of (credit ∷ older) = with_account credit.account (accounts_of older)

-- what an account is paid
pub record Payment : Type 0 where
  pub account : List ℕ
  pub weight : ℕ
  pub amount : ℕ

-- a settled block: the fee, what each account is paid, and what stays with the pool
pub record Settled : Type 0 where
  pub fee : ℕ
  pub payments : List Payment
  pub pool : ℕ

-- the pool's fee, in basis points of the reward
abbrev pub fee_of : ℕ → ℕ → ℕ
fee_of reward fee = reward * fee / 10000

-- an account's payout: the reward after the fee, by its weight
abbrev pub payment : ℕ → List Part → List ℕ → Payment
payment paid_out parts account =
    record {
      account = account;
      weight = weight account parts;
      amount = paid_out * weight account parts / all_weights parts;
    }

-- the payouts of all accounts that have a weight
abbrev pub payments_of : ℕ → List Part → List (List ℕ) → List Payment
payments_of paid_out parts accounts =
    filter (λ payment. nat_lt 0 payment.weight) (map (payment paid_out parts) accounts)

-- the pool has what isn't paid
abbrev pub settled_with : ℕ → ℕ → List Payment → Settled
settled_with reward fee payments =
    record {
      fee = fee;
      payments = payments;
      pool = fee +
          (reward - fee - sum_by (λ payment. payment.amount) payments);
    }

-- the settlement of a block, whose credit stands first
abbrev pub settlement : Option ℕ → ℕ → ℕ → List Booked → Settled
settlement window basis_points reward credits =
    settled_with reward (fee_of reward basis_points)
    (payments_of (reward - fee_of reward basis_points) (parts_in_block window credits)
    (accounts_of credits))

-- the settlement of the last credit, where it is a block
abbrev pub settled_at : Option ℕ → ℕ → Option ℕ → List Booked → List Settled
settled_at window basis_points None credits = []
settled_at window basis_points (Some reward) credits =
    settlement window basis_points reward credits ∷ []

-- the settlements of all blocks, the last first
abbrev pub settlements : Option ℕ → ℕ → List Booked → List Settled
settlements window basis_points [] = []
settlements window basis_points (credit ∷ older) =
    settled_at window basis_points credit.reward (credit ∷ older)
    ++ settlements window basis_points older

-- what one settlement pays to an account
abbrev pub paid_to : List ℕ → Settled → ℕ
paid_to account settled =
    sum_by (λ payment. payment.amount)
    (filter (λ payment. bytes_eq payment.account account) settled.payments)

-- what an account has of all blocks
abbrev pub balance : List ℕ → List Settled → ℕ
balance account settled = sum_by (paid_to account) settled

-- the work of an account's credits
abbrev pub work_for : List ℕ → List Booked → ℕ
work_for account credits =
    sum_by (λ credit. credit.work) (filter (λ credit. bytes_eq credit.account account) credits)
