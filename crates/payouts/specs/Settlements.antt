-- How a tally settles a block (Rosenfeld, "Analysis of Bitcoin Pooled Mining Reward Systems"; the
-- rounding down, and that the pool has what is left, are this project's own).
use Rattle.std.specs.Prelude.{◌≡◌, ℕ, ◌-◌, ◌*◌, ◌/◌, false, if◌then◌else◌, Option, None, Some, List, [], ◌∷◌, length, nat_lt, replicate}
use Rattle.payout_laws.specs.Conservation.{IsConserved}
use Rattle.pool_history.specs.Crediting.{Booked}
use Rattle.pool_history.specs.Settling.{Payment, Settled, fee_of, parts_in_block, settled_with, settlement}
use Rattle.payouts.specs.Tallies.{Remembers, Weighing, weights_in}
use Rattle.payouts.specs.Window.{weights_sum}

-- the payouts of accounts with these weights; an account without one isn't listed
abbrev pub payments_by : ℕ → ℕ → List (List ℕ) → List ℕ → List Payment
payments_by paid_out all [] weights = []
payments_by paid_out all (account ∷ accounts) [] = []
payments_by paid_out all (account ∷ accounts) (weight ∷ weights) =
    if nat_lt 0 weight
    then record { account = account; weight = weight; amount = paid_out * weight / all }
    ∷ payments_by paid_out all accounts weights
    else payments_by paid_out all accounts weights

-- the settlement of a block at the last push
abbrev pub settled_by : Weighing → ℕ → ℕ → Settled
settled_by tally reward basis_points =
    settled_with reward (fee_of reward basis_points)
    (payments_by (reward - fee_of reward basis_points) (weights_sum (weights_in tally))
    tally.accounts (weights_in tally))

-- what a block leaves of the weights: by the proportional rule nothing, by PPLNS all
abbrev pub weights_behind : Option ℕ → List ℕ → List ℕ
weights_behind None weights = replicate (length weights) 0
weights_behind (Some window) weights = weights

-- a block at the last push ends the round
pub record EndsRound (old new : Weighing) : Type 0 where
  pub window_stays : new.window ≡ old.window
  pub accounts_stay : new.accounts ≡ old.accounts
  pub round_works_are : new.round_works ≡ weights_behind old.window old.round_works
  pub kept_stay : new.kept ≡ old.kept
  pub works_stay : new.works ≡ old.works
  pub pushes_stay : new.pushes ≡ old.pushes
  pub settled : new.unsettled ≡ false

-- a credit that is a block
abbrev pub as_block : ℕ → Booked → Booked
as_block reward credit =
    record { account = credit.account; work = credit.work; reward = Some reward }

-- so a tally settles the block that the last of the credits is, and remembers it
pub record IsSettlement (old new : Weighing) (reward basis_points : ℕ) (settled : Settled)
    (credit : Booked) (older : List Booked) : Type 0 where
  pub by_weights : settled
      ≡ settlement old.window basis_points reward (as_block reward credit ∷ older)
  pub remembers : Remembers new (as_block reward credit ∷ older)
  pub conserved : IsConserved basis_points reward
      (parts_in_block old.window (as_block reward credit ∷ older)) settled

abbrev pub SettlesBlock : Weighing → Weighing → ℕ → ℕ → Settled → Type 0
SettlesBlock old new reward basis_points settled =
    (credit : Booked) (older : List Booked) → Remembers old (credit ∷ older)
    → credit.reward ≡ None → IsSettlement old new reward basis_points settled credit older
