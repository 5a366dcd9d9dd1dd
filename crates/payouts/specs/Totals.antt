-- What a tally has summed up of the credits that it was told, and of the settlements of their
-- blocks (this project's own).
use Rattle.std.specs.Prelude.{◌≡◌, ℕ, ◌+◌, ◌-◌, is_some, Option, None, Some, List, ◌∷◌, map, count_by, sum_by}
use Rattle.pool_history.specs.Crediting.{Booked}
use Rattle.pool_history.specs.Settling.{Settled, balance, fee_of, settlements, work_for}
use Rattle.payouts.specs.Plans.{BlockPlan}
use Rattle.payouts.specs.Settlements.{as_block}
use Rattle.payouts.specs.Sums.{with_amounts}
use Rattle.payouts.specs.Tallies.{IsPushed, Remembers, Weighing, weights_in}
use Rattle.payouts.specs.Window.{weights_sum}

-- the sums are those of these credits, where each block was settled with this fee
pub record HasSums (tally : Weighing) (basis_points : ℕ) (credits : List Booked) : Type 0 where
  pub works_are : tally.works ≡ map (λ account. work_for account credits) tally.accounts
  pub balances_are : tally.balances
      ≡ map (λ account. balance account (settlements tally.window basis_points credits)) tally.accounts
  pub pool_is : tally.pool
      ≡ sum_by (λ settled. settled.pool) (settlements tally.window basis_points credits)
  pub blocks_are : tally.blocks ≡ count_by (λ credit. is_some credit.reward) credits

-- a push is summed up
abbrev pub SumsPush : Weighing → Weighing → List ℕ → ℕ → Type 0
SumsPush old new account work =
    (basis_points : ℕ) (credits : List Booked) → Remembers old credits
    → HasSums old basis_points credits
    → HasSums new basis_points (record { account = account; work = work; reward = None } ∷ credits)

-- the settlement of the block that the last credit is, is summed up
abbrev pub SumsBlock : Weighing → Weighing → ℕ → ℕ → Type 0
SumsBlock old new reward basis_points =
    (credit : Booked) (older : List Booked) → Remembers old (credit ∷ older)
    → credit.reward ≡ None → HasSums old basis_points (credit ∷ older)
    → HasSums new basis_points (as_block reward credit ∷ older)

-- so is a planned push, with its settlement where it is a block
abbrev pub SumsPlan : Weighing → Weighing → List ℕ → ℕ → Option BlockPlan → Type 0
SumsPlan old new account work None = SumsPush old new account work
SumsPlan old new account work (Some block) =
    (credits : List Booked) → Remembers old credits → HasSums old block.fee credits
    → HasSums new block.fee
    (record { account = account; work = work; reward = Some block.reward } ∷ credits)

-- what a block adds to the sums
pub record PaysBlock (old new : Weighing) (reward basis_points : ℕ) (settled : Settled)
    : Type 0 where
  pub balances_are : new.balances
      ≡ with_amounts (reward - fee_of reward basis_points) (weights_sum (weights_in old))
      (weights_in old) old.balances
  pub pool_is : new.pool ≡ old.pool + settled.pool
  pub blocks_are : new.blocks ≡ old.blocks + 1

-- a planned push, and what its block, if it is one, then adds to the sums
abbrev pub PaysPlan :
    Weighing → Weighing → List ℕ → ℕ → Option BlockPlan → Option Settled → Type 0
PaysPlan old new account work None settled = IsPushed old new account work
PaysPlan old new account work (Some block) None = ⊥
PaysPlan old new account work (Some block) (Some settled) =
    (pushed : Weighing) × IsPushed old pushed account work
    × PaysBlock pushed new block.reward block.fee settled
