-- What the laws aren't: statements that a worked example refutes.
use Rattle.std.proofs.Common.{◌≡◌, ℕ, ◌+◌, ◌-◌, ◌<◌, ◌≤◌, map, sum_by, Option, None, Some, List, [], ◌∷◌, refl, arith}
use Rattle.pool_history.specs.Crediting.{Booked}
use Rattle.pool_history.specs.Settling.{Settled, settlement}
use Rattle.payout_laws.specs.Blocks.{blocks_of}
use Rattle.payout_laws.specs.Payouts.{due}
use Rattle.payout_laws.specs.Weights.{weight_by_places, weights_by_places}

-- credits of two accounts: a of work 1 and then 2, and b of work 4, which is a block of 1,000 satoshis
abbrev pub credits : List Booked
credits =
    record { account = 0x62 ∷ []; work = 4; reward = Some 1000 } ∷ record { account = 0x61 ∷ []; work = 2; reward = None }
    ∷ record { account = 0x61 ∷ []; work = 1; reward = None } ∷ []

-- its settlement with a fee of one percent by the proportional rule
abbrev pub settled : Settled
settled = settlement None 100 1000 credits

-- the payouts, 424 and 565, and the pool's 11, of which 10 are the fee, are the reward
pub whole_with_the_fee : sum_by (λ paid. paid.amount) settled.payments + settled.pool ≡ 1000
whole_with_the_fee = refl

-- without the fee they aren't: reward and fee both stay with the pool's part
abbrev pub WholeWithoutTheFee : Type 0
WholeWithoutTheFee =
    (window : Option ℕ) (basis_points reward : ℕ) (credits : List Booked) → basis_points ≤ 10000
    → sum_by (λ paid. paid.amount) (settlement window basis_points reward credits).payments
    + ((settlement window basis_points reward credits).pool - (settlement window basis_points reward credits).fee)
    ≡ reward

pub not_whole_without_the_fee : WholeWithoutTheFee → ⊥
not_whole_without_the_fee law = differ 990 (omega arith) (law None 100 1000 credits (omega arith)) where
  differ : (n : ℕ) → n < 1000 → n ≡ 1000 → ⊥
  differ n less e = omega (arith, less, e)

-- the window divides no payout: of a window of 100 the seven units of work that are there are paid in full
pub divided_by_the_work : due (Some 100) 0 1000 credits (0x61 ∷ []) ≡ 428
divided_by_the_work = refl

pub not_divided_by_the_window : due (Some 100) 0 1000 credits (0x61 ∷ []) ≡ 30 → ⊥
not_divided_by_the_window e = omega (arith, e)

-- an account without a credit is due nothing
pub nothing_due : due None 100 1000 credits (0x63 ∷ []) ≡ 0
nothing_due = refl

-- there is one block, with all three credits
pub one_block : blocks_of credits ≡ record { reward = 1000; credits = credits } ∷ []
one_block = refl

-- weights by places: credits of a 4, b 2, a 1 and b 2, which is a block; by a window of 6 the oldest credit is cut to one
-- unit, by one of 1 the block's own credit is cut too, by one of 100 nothing is
abbrev pub four_credits : List Booked
four_credits =
    record { account = 0x62 ∷ []; work = 2; reward = Some 1000 } ∷ record { account = 0x61 ∷ []; work = 1; reward = None }
    ∷ record { account = 0x62 ∷ []; work = 2; reward = None } ∷ record { account = 0x61 ∷ []; work = 4; reward = None } ∷ []

abbrev pub both_accounts : List (List ℕ)
both_accounts = (0x61 ∷ []) ∷ (0x62 ∷ []) ∷ []

pub weights_of_six : map (weight_by_places (Some 6) four_credits) both_accounts ≡ 2 ∷ 4 ∷ []
weights_of_six = refl

pub weights_of_one : map (weight_by_places (Some 1) four_credits) both_accounts ≡ 0 ∷ 1 ∷ []
weights_of_one = refl

pub weights_of_hundred : map (weight_by_places (Some 100) four_credits) both_accounts ≡ 5 ∷ 4 ∷ []
weights_of_hundred = refl

-- by the proportional rule the same weigh all their work, and nothing before a block counts for the next
pub weights_of_round : map (weight_by_places None four_credits) both_accounts ≡ 5 ∷ 4 ∷ []
weights_of_round = refl

pub weights_of_next_round : weights_by_places None (record { account = 0x61 ∷ []; work = 3; reward = Some 500 } ∷ four_credits) ≡ 3
weights_of_next_round = refl
