-- The blocks of a list of credits, their settlements, and what all of them are paid.
use Rattle.std.proofs.Common.{◌≡◌, ℕ, ◌+◌, ◌-◌, ◌≤◌, true, cond, map, sum_by, count_by, is_some, Option, None, Some, List, [], ◌∷◌, ◌++◌, length, refl, sym, ap, ap₂, ◌∙◌, subst, append_assoc, length-append}
use Rattle.std.specs.List.{AllByRecursion}
use Rattle.std.proofs.lemmas.List.{map-append}
use Rattle.std.proofs.lemmas.List.Sums.{sum_by-cons}
use Rattle.pool_history.specs.declared.events.Event.{Event}
use Rattle.pool_history.specs.declared.settings.Rules.{Rules}
use Rattle.pool_history.specs.Accounts.{are_distinct}
use Rattle.pool_history.specs.Crediting.{Booked, bookings_of}
use Rattle.pool_history.specs.Legal.{LegalPast}
use Rattle.pool_history.specs.Sessions.{past_of, rules_of}
use Rattle.pool_history.specs.Settling.{Settled, accounts_of, balance, fee_of, paid_to, parts_in_block, settled_at, settlement, settlements}
use Rattle.pool_history.specs.Summary.{settlements_by, sums_of}
use Rattle.payout_laws.specs.Blocks.{BalancesAreRewards, Block, BlocksAreCredits, IsBlockAt, SettlementsAreOfBlocks, block_at, blocks_of, settled_block}
use Rattle.payout_laws.specs.Conservation.{IsConserved}
use Rattle.payout_laws.specs.Payouts.{BalancesAreSums, due_of}
use Rattle.payout_laws.proofs.Sums.{all-append, all-weaker, sum_by-accounts, sum_by-map, sum_by-plus, sum_by-same, sum_by-swap}
use Rattle.payout_laws.proofs.Members.{AreAmong, IsAmong, accounts_of-among, among-accounts_of, distinct-accounts_of}
use Rattle.payout_laws.proofs.Shares.{all-payments}
use Rattle.payout_laws.proofs.Ranges.{HasRoom, HasWork, PaysFrom, booked-has_work, pays_from, rules-in_range, rules-none}
use Rattle.payout_laws.proofs.Conserved.{conserved, some_weight}
use Rattle.payout_laws.proofs.WeightsPlaced.{payouts-placed}

-- how many blocks there are among credits
abbrev pub blocks_in : List Booked → ℕ
blocks_in credits = count_by (λ credit. is_some credit.reward) credits

length-block_at : (reward : Option ℕ) (credits : List Booked) → length (block_at reward credits) ≡ cond (is_some reward) 1 0
length-block_at None credits = refl
length-block_at (Some reward) credits = refl

pub length-blocks_of : (credits : List Booked) → length (blocks_of credits) ≡ blocks_in credits
length-blocks_of [] = refl
length-blocks_of (credit ∷ older) =
    length-append (block_at credit.reward (credit ∷ older)) (blocks_of older)
    ∙ ap₂ (λ m n. m + n) (length-block_at credit.reward (credit ∷ older)) (length-blocks_of older)
    ∙ sym (sum_by-cons (λ credit. cond (is_some credit.reward) 1 0) credit older)

-- a block among the others
pub block_stands : (newer older : List Booked) (block : Booked) (reward : ℕ) → block.reward ≡ Some reward → IsBlockAt newer older block reward
block_stands [] older block reward is = record {
  later = [];
  counted = refl;
  there = ap (λ r. block_at r (block ∷ older) ++ blocks_of older) is;
}
block_stands (credit ∷ newer) older block reward is =
    let rest : IsBlockAt newer older block reward = block_stands newer older block reward is in
    record {
      later = block_at credit.reward (credit ∷ newer ++ block ∷ older) ++ rest.later;
      counted = length-append (block_at credit.reward (credit ∷ newer ++ block ∷ older)) rest.later
          ∙ ap₂ (λ m n. m + n) (length-block_at credit.reward (credit ∷ newer ++ block ∷ older)) rest.counted
          ∙ sym (sum_by-cons (λ credit. cond (is_some credit.reward) 1 0) credit newer);
      there = ap (λ blocks. block_at credit.reward (credit ∷ newer ++ block ∷ older) ++ blocks) rest.there
          ∙ sym (append_assoc (block_at credit.reward (credit ∷ newer ++ block ∷ older)) rest.later (record { reward = reward; credits = block ∷ older } ∷ blocks_of older));
    }

pub blocks_are : BlocksAreCredits
blocks_are credits = record {
  counted = length-blocks_of credits;
  each = λ newer older block reward splits is. block_stands newer older block reward is;
}

-- their settlements
settled_at-block : (window : Option ℕ) (basis_points : ℕ) (reward : Option ℕ) (credits : List Booked)
    → settled_at window basis_points reward credits ≡ map (settled_block window basis_points) (block_at reward credits)
settled_at-block window basis_points None credits = refl
settled_at-block window basis_points (Some reward) credits = refl

pub settlements_are : SettlementsAreOfBlocks
settlements_are window basis_points [] = refl
settlements_are window basis_points (credit ∷ older) =
    ap₂ (λ xs ys. xs ++ ys) (settled_at-block window basis_points credit.reward (credit ∷ older)) (settlements_are window basis_points older)
    ∙ sym (map-append (settled_block window basis_points) (block_at credit.reward (credit ∷ older)) (blocks_of older))

-- a balance is the sum of an account's quotients
pub balances_sums : BalancesAreSums
balances_sums window basis_points credits account =
    ap (λ settled. sum_by (paid_to account) settled) (settlements_are window basis_points credits)
    ∙ sum_by-map (paid_to account) (settled_block window basis_points) (blocks_of credits)
    ∙ sum_by-same (λ block. paid_to account (settled_block window basis_points block)) (due_of window basis_points account) (blocks_of credits)
    (λ block. payouts-placed window basis_points block.reward block.credits account)

-- sums of terms that are the same at each element
sum_by-all : {X : Type 0} (f g : X → ℕ) (xs : List X) → AllByRecursion (λ x. f x ≡ g x) xs → sum_by f xs ≡ sum_by g xs
sum_by-all f g [] each = refl
sum_by-all f g (x ∷ xs) each = sum_by-cons f x xs ∙ ap₂ (λ m n. m + n) each.0 (sum_by-all f g xs each.1) ∙ sym (sum_by-cons g x xs)

-- what a block pays to these accounts and keeps for the pool is its reward
abbrev pub IsShared : Option ℕ → ℕ → List (List ℕ) → Block → Type 0
IsShared window basis_points accounts block =
    sum_by (λ account. paid_to account (settled_block window basis_points block)) accounts + (settled_block window basis_points block).pool ≡ block.reward

block_shared : (window : Option ℕ) (basis_points : ℕ) (accounts : List (List ℕ)) (credit : Booked) (older : List Booked) (reward : ℕ)
    → basis_points ≤ 10000 → HasRoom window → HasWork credit → are_distinct accounts ≡ true → AreAmong accounts (credit ∷ older)
    → IsShared window basis_points accounts (record { reward = reward; credits = credit ∷ older })
block_shared window basis_points accounts credit older reward part room work distinct among =
    let credits : List Booked = credit ∷ older in
    let kept : IsConserved basis_points reward (parts_in_block window credits) (settlement window basis_points reward credits) =
    conserved window basis_points reward credits part (some_weight window credit older work room) in
    let theirs : AllByRecursion (λ paid. IsAmong accounts paid.account) (settlement window basis_points reward credits).payments =
    all-payments (λ paid. IsAmong accounts paid.account) (reward - fee_of reward basis_points) (parts_in_block window credits) (accounts_of credits)
    (all-weaker (IsAmong accounts) _ (accounts_of credits) (λ account there weighed. there) (accounts_of-among accounts credits among)) in
    ap (λ n. n + (settlement window basis_points reward credits).pool)
    (sum_by-accounts (λ paid. paid.account) (λ paid. paid.amount) accounts (settlement window basis_points reward credits).payments distinct theirs)
    ∙ kept.whole

blocks_shared : (window : Option ℕ) (basis_points : ℕ) (accounts : List (List ℕ)) (credits : List Booked)
    → basis_points ≤ 10000 → HasRoom window → are_distinct accounts ≡ true → AllByRecursion HasWork credits → AreAmong accounts credits
    → AllByRecursion (IsShared window basis_points accounts) (blocks_of credits)
blocks_shared window basis_points accounts [] part room distinct work among = tt
blocks_shared window basis_points accounts (credit ∷ older) part room distinct work among =
    all-append (IsShared window basis_points accounts) (block_at credit.reward (credit ∷ older)) (blocks_of older)
    (by_reward credit.reward) (blocks_shared window basis_points accounts older part room distinct work.1 among.1)
  where
    by_reward : (reward : Option ℕ) → AllByRecursion (IsShared window basis_points accounts) (block_at reward (credit ∷ older))
    by_reward None = tt
    by_reward (Some reward) = (block_shared window basis_points accounts credit older reward part room work.0 distinct among, tt)

-- so all that they are paid, and what the pool has, are all rewards
all_shared : (window : Option ℕ) (basis_points : ℕ) (accounts : List (List ℕ)) (credits : List Booked)
    → AllByRecursion (IsShared window basis_points accounts) (blocks_of credits)
    → sum_by (λ account. balance account (settlements window basis_points credits)) accounts
    + sum_by (λ settled. settled.pool) (settlements window basis_points credits)
    ≡ sum_by (λ block. block.reward) (blocks_of credits)
all_shared window basis_points accounts credits each =
    let settled : Block → Settled = settled_block window basis_points in
    let balances : sum_by (λ account. balance account (settlements window basis_points credits)) accounts
    ≡ sum_by (λ block. sum_by (λ account. paid_to account (settled block)) accounts) (blocks_of credits) =
    sum_by-same (λ account. balance account (settlements window basis_points credits))
    (λ account. sum_by (λ block. paid_to account (settled block)) (blocks_of credits)) accounts
    (λ account. ap (λ ss. sum_by (paid_to account) ss) (settlements_are window basis_points credits) ∙ sum_by-map (paid_to account) settled (blocks_of credits))
    ∙ sum_by-swap (λ account block. paid_to account (settled block)) accounts (blocks_of credits) in
    let pools : sum_by (λ settled. settled.pool) (settlements window basis_points credits) ≡ sum_by (λ block. (settled block).pool) (blocks_of credits) =
    ap (λ ss. sum_by (λ settled. settled.pool) ss) (settlements_are window basis_points credits) ∙ sum_by-map (λ settled. settled.pool) settled (blocks_of credits) in
    ap₂ (λ m n. m + n) balances pools
    ∙ sym (sum_by-plus (λ block. sum_by (λ account. paid_to account (settled block)) accounts) (λ block. (settled block).pool) (blocks_of credits))
    ∙ sum_by-all (λ block. sum_by (λ account. paid_to account (settled block)) accounts + (settled block).pool) (λ block. block.reward) (blocks_of credits) each

-- of a legal history
abbrev pub AreShared : List Event → List Settled → Type 0
AreShared past settled =
    sum_by (λ sums. sums.balance) (map (sums_of (bookings_of past) settled) (accounts_of (bookings_of past))) + sum_by (λ settled. settled.pool) settled
    ≡ sum_by (λ block. block.reward) (blocks_of (bookings_of past))

shared_by : (past : List Event) (rules : Rules) → LegalPast past → rules_of past ≡ Some rules
    → AreShared past (settlements rules.window rules.fee (bookings_of past))
shared_by past rules legal is =
    let pays : PaysFrom rules = pays_from rules (rules-in_range past rules legal is) in
    let settled : List Settled = settlements rules.window rules.fee (bookings_of past) in
    ap (λ n. n + sum_by (λ settled. settled.pool) settled) (sum_by-map (λ sums. sums.balance) (sums_of (bookings_of past) settled) (accounts_of (bookings_of past)))
    ∙ all_shared rules.window rules.fee (accounts_of (bookings_of past)) (bookings_of past)
    (blocks_shared rules.window rules.fee (accounts_of (bookings_of past)) (bookings_of past) pays.fee pays.room (distinct-accounts_of (bookings_of past))
    (booked-has_work past) (among-accounts_of (bookings_of past)))

shared_past : (past : List Event) → LegalPast past → AreShared past (settlements_by (rules_of past) (bookings_of past))
shared_past past legal = by_rules (rules_of past) refl where
  by_rules : (rules : Option Rules) → rules_of past ≡ rules → AreShared past (settlements_by (rules_of past) (bookings_of past))
  by_rules None none = subst (λ p. AreShared p (settlements_by (rules_of p) (bookings_of p))) (sym (rules-none past legal none)) refl
  by_rules (Some rules) is = subst (λ r. AreShared past (settlements_by r (bookings_of past))) (sym is) (shared_by past rules legal is)

pub balances_rewards : BalancesAreRewards
balances_rewards history legal = shared_past (past_of history) legal
