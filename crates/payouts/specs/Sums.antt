-- The sums of a tally: what its accounts have worked and are owed, what its blocks left the pool,
-- and how many they were (this project's own).
use Rattle.std.specs.Prelude.{◌≡◌, ℕ, ◌+◌, ◌-◌, ◌*◌, ◌/◌, ◌<◌, ◌≤◌, ◌^◌, Bool, if◌then◌else◌, min, List, [], ◌∷◌, length}
use Rattle.std.specs.Vec.{vec_len, vec_capacity}
use Rattle.payouts.specs.declared.sums.Sums.{Sums}
use Rattle.payouts.specs.Window.{weights_sum}

-- there is room for an account more
pub record HasRow (sums : Sums) : Type 0 where
  pub works : vec_len sums.works < vec_capacity sums.works
  pub balances : vec_len sums.balances < vec_capacity sums.balances

-- so many accounts more need no memory
abbrev pub rows_left : Sums → ℕ
rows_left sums =
    min (vec_capacity sums.works - vec_len sums.works)
    (vec_capacity sums.balances - vec_len sums.balances)

-- nothing changed but the room
pub record DiffersInRows (old new : Sums) : Type 0 where
  pub works_stay : new.works.items ≡ old.works.items
  pub balances_stay : new.balances.items ≡ old.balances.items
  pub pool_stays : new.pool ≡ old.pool
  pub blocks_stay : new.blocks ≡ old.blocks

-- each balance with the account's quotient
abbrev pub with_amounts : ℕ → ℕ → List ℕ → List ℕ → List ℕ
with_amounts paid_out all weights [] = []
with_amounts paid_out all [] (balance ∷ balances) = balance ∷ balances
with_amounts paid_out all (weight ∷ weights) (balance ∷ balances) =
    (balance + paid_out * weight / all) ∷ with_amounts paid_out all weights balances

-- so many blocks may have come, one of which the last push may still become
abbrev pub blocks_by : ℕ → Bool → ℕ
blocks_by blocks unsettled = blocks + (if unsettled then 1 else 0)

-- what holds of the sums of so many accounts, pushes and blocks; a reward is below 2 ^ 40
pub record AreSums (accounts : ℕ) (works balances : List ℕ) (pool blocks pushes : ℕ)
    (unsettled : Bool) : Type 0 where
  pub works_length : length works ≡ accounts
  pub works_small : weights_sum works ≤ pushes * 2 ^ 60
  pub balances_length : length balances ≡ accounts
  pub paid_small : weights_sum balances + pool ≤ blocks * 2 ^ 40
  pub few : blocks_by blocks unsettled ≤ pushes
