-- The blocks of a list of credits, and what all of them are paid (this project's own).
use Rattle.std.specs.Prelude.{◌≡◌, ℕ, ◌+◌, Option, None, Some, is_some, List, [], ◌∷◌, ◌++◌, length, map, count_by, sum_by}
use Rattle.pool_history.specs.declared.events.Event.{Event}
use Rattle.pool_history.specs.Crediting.{Booked, bookings_of}
use Rattle.pool_history.specs.Legal.{Legal}
use Rattle.pool_history.specs.Sessions.{past_of}
use Rattle.pool_history.specs.Settling.{Settled, settlement, settlements}
use Rattle.pool_history.specs.Summary.{summary_of}

-- a block: its reward, and the credits up to and with its own, which stands first
pub record Block : Type 0 where
  pub reward : ℕ
  pub credits : List Booked

-- the block that a credit is, if it is one
abbrev pub block_at : Option ℕ → List Booked → List Block
block_at None credits = []
block_at (Some reward) credits = record { reward = reward; credits = credits } ∷ []

-- all blocks, the last first
abbrev pub blocks_of : List Booked → List Block
blocks_of [] = []
blocks_of (credit ∷ older) = block_at credit.reward (credit ∷ older) ++ blocks_of older

-- how a block is settled
abbrev pub settled_block : Option ℕ → ℕ → Block → Settled
settled_block window basis_points block = settlement window basis_points block.reward block.credits

-- a block stands among the others at its credit's place, whatever came later
pub record IsBlockAt (newer older : List Booked) (credit : Booked) (reward : ℕ) : Type 0 where
  pub later : List Block
  pub counted : length later ≡ count_by (λ credit. is_some credit.reward) newer
  pub there : blocks_of (newer ++ credit ∷ older)
      ≡ later ++ record { reward = reward; credits = credit ∷ older } ∷ blocks_of older

-- the blocks are the credits with a reward, each at its place, and there are no others
pub record AreBlocks (credits : List Booked) : Type 0 where
  pub counted : length (blocks_of credits) ≡ count_by (λ credit. is_some credit.reward) credits
  pub each : (newer older : List Booked) (credit : Booked) (reward : ℕ)
      → credits ≡ newer ++ credit ∷ older → credit.reward ≡ Some reward
      → IsBlockAt newer older credit reward

abbrev pub BlocksAreCredits : Type 0
BlocksAreCredits = (credits : List Booked) → AreBlocks credits

-- the settlements are those of the blocks, in order
abbrev pub SettlementsAreOfBlocks : Type 0
SettlementsAreOfBlocks =
    (window : Option ℕ) (basis_points : ℕ) (credits : List Booked)
    → settlements window basis_points credits
    ≡ map (settled_block window basis_points) (blocks_of credits)

-- the balances and the pool's part that a legal history sums up to are the rewards of its blocks
abbrev pub BalancesAreRewards : Type 0
BalancesAreRewards =
    (history : List Event) → Legal history
    → sum_by (λ sums. sums.balance) (summary_of (past_of history)).accounts +
    (summary_of (past_of history)).pool
    ≡ sum_by (λ block. block.reward) (blocks_of (bookings_of (past_of history)))
