-- What an account is due, as quotients of weights by places (Rosenfeld, "Analysis of Bitcoin Pooled
-- Mining Reward Systems"; the rounding down is this project's own).
use Rattle.std.specs.Prelude.{◌≡◌, ℕ, ◌-◌, ◌*◌, ◌/◌, Option, List, sum_by}
use Rattle.pool_history.specs.Crediting.{Booked}
use Rattle.pool_history.specs.Settling.{balance, fee_of, paid_to, settlement, settlements}
use Rattle.payout_laws.specs.Blocks.{Block, blocks_of}
use Rattle.payout_laws.specs.Weights.{weight_by_places, weights_by_places}

-- the quotient of an account's weight by all weights, of the reward after the fee
abbrev pub due : Option ℕ → ℕ → ℕ → List Booked → List ℕ → ℕ
due window basis_points reward credits account =
    (reward - fee_of reward basis_points) * weight_by_places window credits account
    / weights_by_places window credits

-- the same of a block
abbrev pub due_of : Option ℕ → ℕ → List ℕ → Block → ℕ
due_of window basis_points account block =
    due window basis_points block.reward block.credits account

-- each account is paid its quotient, and nothing where it has no weight
abbrev pub PayoutsAreQuotients : Type 0
PayoutsAreQuotients =
    (window : Option ℕ) (basis_points reward : ℕ) (credits : List Booked) (account : List ℕ)
    → paid_to account (settlement window basis_points reward credits)
    ≡ due window basis_points reward credits account

-- a balance is the sum of an account's payouts over all blocks
abbrev pub BalancesAreSums : Type 0
BalancesAreSums =
    (window : Option ℕ) (basis_points : ℕ) (credits : List Booked) (account : List ℕ)
    → balance account (settlements window basis_points credits)
    ≡ sum_by (due_of window basis_points account) (blocks_of credits)
