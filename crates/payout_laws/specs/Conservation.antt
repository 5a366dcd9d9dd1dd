-- A block's reward is its payouts plus the pool's part (Rosenfeld, "Analysis of Bitcoin Pooled
-- Mining Reward Systems"; the rounding down, and that the pool has what is left, are this project's
-- own).
use Rattle.std.specs.Prelude.{◌≡◌, ℕ, ◌+◌, ◌-◌, ◌*◌, ◌<◌, ◌≤◌, Some, IsTrue, List, ◌∷◌, ◌++◌, length, map, sum_by}
use Rattle.std.specs.List.{AllByRecursion}
use Rattle.pool_history.specs.declared.events.Event.{Event}
use Rattle.pool_history.specs.declared.settings.Rules.{Rules}
use Rattle.pool_history.specs.Accounts.{are_distinct}
use Rattle.pool_history.specs.Crediting.{Booked, bookings_of}
use Rattle.pool_history.specs.Legal.{Legal}
use Rattle.pool_history.specs.Sessions.{past_of, rules_of}
use Rattle.pool_history.specs.Settling.{Part, Payment, Settled, all_weights, fee_of, parts_in_block, settlement, weight}

-- an amount is the exact share of its weight, rounded down
pub record IsRoundedDown (paid_out all : ℕ) (paid : Payment) : Type 0 where
  pub at_most : paid.amount * all ≤ paid_out * paid.weight
  pub nearly : paid_out * paid.weight < (paid.amount + 1) * all

-- what a settlement keeps of a reward that is paid by these parts
pub record IsConserved (basis_points reward : ℕ) (parts : List Part)
    (settled : Settled) : Type 0 where
  -- nothing is lost: the payouts and the pool's part are the reward
  pub whole : sum_by (λ paid. paid.amount) settled.payments + settled.pool ≡ reward
  -- the pool has its fee, and beyond it less than one satoshi for each account with a weight
  pub fee : settled.fee ≡ fee_of reward basis_points
  pub fee_is_kept : settled.fee ≤ settled.pool
  pub rest_is_small : settled.pool - settled.fee < length settled.payments
  -- some account is paid, and none twice
  pub some : 1 ≤ length settled.payments
  pub once : IsTrue (are_distinct (map (λ paid. paid.account) settled.payments))
  -- each amount is the quotient of its account's weight, and the weights are all that there are
  pub weight_is : AllByRecursion (λ paid. paid.weight ≡ weight paid.account parts) settled.payments
  pub rounded : AllByRecursion
      (IsRoundedDown (reward - settled.fee) (all_weights parts)) settled.payments
  pub weighed : AllByRecursion (λ paid. 1 ≤ paid.weight) settled.payments
  pub weights : sum_by (λ paid. paid.weight) settled.payments ≡ all_weights parts

-- a block of a history under its rules: its credit, those before it, and its reward
pub record IsBlockOf (history : List Event) (rules : Rules) (credit : Booked) (older : List Booked)
    (reward : ℕ) : Type 0 where
  pub rules_are : rules_of (past_of history) ≡ Some rules
  pub newer : List Booked
  pub stands : bookings_of (past_of history) ≡ newer ++ credit ∷ older
  pub rewarded : credit.reward ≡ Some reward

-- each block's reward is its payouts plus the pool's part
abbrev pub RewardsAreConserved : Type 0
RewardsAreConserved =
    (history : List Event) (rules : Rules) (credit : Booked) (older : List Booked) (reward : ℕ)
    → Legal history → IsBlockOf history rules credit older reward
    → IsConserved rules.fee reward (parts_in_block rules.window (credit ∷ older))
    (settlement rules.window rules.fee reward (credit ∷ older))
