-- Weights by the places of credits, without a running total (Rosenfeld, "Analysis of Bitcoin Pooled
-- Mining Reward Systems": the proportional method, and the idea of PPLNS; that credits weigh their
-- work, the window and the cut are this project's own). The credits up to and with a block's own
-- stand last first, as the block's is the last. What they are equal
-- to, the running weights, is computed in `Settlements` of `pool_history`.
use Rattle.std.specs.Prelude.{◌≡◌, ℕ, ◌+◌, ◌-◌, ◌&&◌, Bool, true, not, if◌then◌else◌, min, Option, None, Some, is_some, List, [], ◌∷◌, ◌++◌, sum_by}
use Rattle.std.specs.List.{list_any}
use Rattle.std.specs.Str.{bytes_eq}
use Rattle.pool_history.specs.Crediting.{Booked}
use Rattle.pool_history.specs.Settling.{all_weights, parts_in_block, weight}

-- no block stands at a credit or behind it, but for the last: `newer` are those behind it, the
-- block's own first
abbrev pub is_in_round : List Booked → Booked → Bool
is_in_round [] credit = true
is_in_round (block ∷ between) credit =
    not (list_any (λ one. is_some one.reward) between) && not (is_some credit.reward)

-- a credit's part by the proportional rule: its work, where no block stands from it on up to the
-- block
abbrev pub proportional_part : List Booked → Booked → ℕ
proportional_part newer credit = if is_in_round newer credit then credit.work else 0

-- its part by PPLNS: what the window has left after the work of the credits behind it up to and
-- with the block's own
abbrev pub pplns_part : ℕ → List Booked → Booked → ℕ
pplns_part window newer credit =
    min credit.work (window - min window (sum_by (λ one. one.work) newer))

-- its part under the rules
abbrev pub part_at : Option ℕ → List Booked → Booked → ℕ
part_at None newer credit = proportional_part newer credit
part_at (Some window) newer credit = pplns_part window newer credit

-- the parts of the credits that a test takes, each by its place, from those behind these newer ones
-- on
abbrev pub parts_from : (Booked → Bool) → Option ℕ → List Booked → List Booked → ℕ
parts_from takes window newer [] = 0
parts_from takes window newer (credit ∷ older) =
    (if takes credit then part_at window newer credit else 0) + parts_from takes window
    (newer ++ credit ∷ []) older

-- an account's weight in a block is the sum of its credits' parts, and all weights are the sum of
-- all parts
abbrev pub weight_by_places : Option ℕ → List Booked → List ℕ → ℕ
weight_by_places window credits account =
    parts_from (λ credit. bytes_eq credit.account account) window [] credits

abbrev pub weights_by_places : Option ℕ → List Booked → ℕ
weights_by_places window credits = parts_from (λ credit. true) window [] credits

-- the weights that settle a block are those
pub record HasWeights (window : Option ℕ) (credits : List Booked) (account : List ℕ) : Type 0 where
  pub own : weight account (parts_in_block window credits) ≡ weight_by_places window credits account
  pub all : all_weights (parts_in_block window credits) ≡ weights_by_places window credits

abbrev pub WeightsByPlaces : Type 0
WeightsByPlaces =
    (window : Option ℕ) (credits : List Booked) (account : List ℕ)
    → HasWeights window credits account
