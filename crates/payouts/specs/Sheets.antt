-- The accounts that a block may pay, and what it pays them (this project's own).
use Rattle.std.specs.Prelude.{◌≡◌, ℕ, ◌+◌, ◌*◌, ◌/◌, ◌<◌, suc, if◌then◌else◌, List, [], ◌∷◌, ◌++◌, map, nat_lt, slice_index, slice_index_or}
use Rattle.pool_history.specs.Settling.{Payment}
use Rattle.payouts.specs.declared.settlement.Listed.{Listed}
use Rattle.payouts.specs.Settlements.{payments_by}
use Rattle.payouts.specs.Weights.{AreAtMost}
use Rattle.payouts.specs.Window.{added}

-- the account at a place; behind all places a newcomer
abbrev pub listed_at : List (List ℕ) → List ℕ → ℕ → Listed
listed_at accounts newcomer place =
    record { place = place; account = slice_index_or accounts place newcomer }

-- one place further
abbrev pub further : Listed → Listed
further listed = record { place = suc listed.place; account = listed.account }

-- the accounts that have a weight, with their places
abbrev pub listed_accounts : List (List ℕ) → List ℕ → List Listed
listed_accounts [] weights = []
listed_accounts (account ∷ accounts) [] = []
listed_accounts (account ∷ accounts) (weight ∷ weights) =
    if nat_lt 0 weight
    then record { place = 0; account = account } ∷ map further (listed_accounts accounts weights)
    else map further (listed_accounts accounts weights)

-- all accounts that have a weight are listed
pub record ListsWeighed (accounts : List (List ℕ)) (weights : List ℕ) (listed : List Listed)
    : Type 0 where
  pub mosts : List ℕ
  pub listed_are : listed ≡ listed_accounts accounts mosts
  pub most : AreAtMost weights mosts

-- what listed accounts are paid
abbrev pub payments_to : ℕ → ℕ → List ℕ → List Listed → List Payment
payments_to paid_out all weights [] = []
payments_to paid_out all weights (listed ∷ others) =
    payments_by paid_out all (listed.account ∷ []) (slice_index weights listed.place ∷ [])
    ++ payments_to paid_out all weights others

-- the balances with it
abbrev pub balances_with : ℕ → ℕ → List ℕ → List Listed → List ℕ → List ℕ
balances_with paid_out all weights [] balances = balances
balances_with paid_out all weights (listed ∷ others) balances =
    balances_with paid_out all weights others
    (added balances listed.place (paid_out * slice_index weights listed.place / all))

-- the weights of listed accounts together
abbrev pub listed_weights : List ℕ → List Listed → ℕ
listed_weights weights [] = 0
listed_weights weights (listed ∷ others) =
    slice_index weights listed.place + listed_weights weights others

-- they have places
abbrev pub AreListed : ℕ → List Listed → Type 0
AreListed accounts [] = Unit
AreListed accounts (listed ∷ others) = (listed.place < accounts) × AreListed accounts others
