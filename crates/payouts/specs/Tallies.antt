-- What a tally remembers of its pushes, so that it settles blocks as the definitions do (this
-- project's own).
use Rattle.std.specs.Prelude.{◌≡◌, ℕ, ◌+◌, ◌-◌, ◌*◌, ◌^◌, ◌<◌, ◌≤◌, Option, None, Some, if◌then◌else◌, List, [], ◌∷◌, ◌++◌, length, map, nat_lt, reverse, Bool, true, false, not, is_some, IsTrue}
use Rattle.std.specs.List.{AllByRecursion, list_any, position_or_len}
use Rattle.std.specs.Str.{bytes_eq}
use Rattle.pool_history.specs.Crediting.{Booked}
use Rattle.pool_history.specs.Settling.{Part, accounts_of, last_work, since_block, weight, with_account}
use Rattle.payouts.specs.declared.tally.Rule.{Rule}
use Rattle.payouts.specs.declared.tally.Rule.TheVariants as rule
use Rattle.payouts.specs.declared.window.Kept.{Kept}
use Rattle.payouts.specs.Weights.{AreAtMost}
use Rattle.payouts.specs.Window.{IsCreditWindow, added, weights_of, weights_sum, without_oldest}

-- the place of an account among others, or behind them
abbrev pub account_place : List (List ℕ) → List ℕ → ℕ
account_place accounts account = position_or_len (bytes_eq account) accounts

-- numbers by accounts, with one more, of 0, where the account is new
abbrev pub with_newcomer : List ℕ → List (List ℕ) → List ℕ → List ℕ
with_newcomer account accounts numbers =
    if list_any (bytes_eq account) accounts then numbers else numbers ++ 0 ∷ []

-- what a tally knows
pub record Weighing : Type 0 where
  pub window : Option ℕ
  -- the accounts in the order of their first push
  pub accounts : List (List ℕ)
  -- by the proportional rule the work of each account since the last block, by PPLNS nothing
  pub round_works : List ℕ
  -- by PPLNS the credits in the window, the oldest first, by the proportional rule none
  pub kept : List Kept
  -- the work and the balance of each account, what stayed with the pool, and the blocks
  pub works : List ℕ
  pub balances : List ℕ
  pub pool : ℕ
  pub blocks : ℕ
  pub pushes : ℕ
  -- a push came since the last settlement
  pub unsettled : Bool
  -- so many pushes need no memory
  pub room : ℕ

-- what the credits of so many accounts count in a block by now: by the proportional rule the works
-- since the last block, by PPLNS what is in the window
abbrev pub weights_by : Option ℕ → ℕ → List ℕ → List Kept → List ℕ
weights_by None accounts round_works kept = round_works
weights_by (Some window) accounts round_works kept = weights_of accounts kept

-- the weights of a tally's accounts
abbrev pub weights_in : Weighing → List ℕ
weights_in tally = weights_by tally.window (length tally.accounts) tally.round_works tally.kept

-- of running weights what nothing else shows: by PPLNS the credits in the window show them
abbrev pub round_works_by : Option ℕ → List ℕ → List ℕ
round_works_by None weights = weights
round_works_by (Some window) weights = []

-- the credits that have some part, with the places of their accounts
abbrev pub placed : List (List ℕ) → List Part → List Kept
placed accounts [] = []
placed accounts (part ∷ parts) =
    if nat_lt 0 part.weight
    then record { place = account_place accounts part.account; part = part.weight }
    ∷ placed accounts parts else placed accounts parts

-- what decides the weights is that of the credits, and nothing beside it is kept: by the
-- proportional rule the works since the last block, by PPLNS the credits in the window
abbrev pub RemembersWeights : Weighing → Option ℕ → List Booked → Type 0
RemembersWeights tally None credits =
    (tally.round_works ≡ map (λ account. weight account (since_block credits)) tally.accounts)
    × (tally.kept ≡ [])
RemembersWeights tally (Some window) credits =
    (tally.round_works ≡ [])
    × (reverse tally.kept ≡ placed tally.accounts (last_work window 0 credits))

-- the last credit is no block yet
abbrev pub is_unsettled : List Booked → Bool
is_unsettled [] = false
is_unsettled (credit ∷ older) = not (is_some credit.reward)

-- a tally was told these credits, the last first
pub record Remembers (tally : Weighing) (credits : List Booked) : Type 0 where
  pub accounts_are : tally.accounts ≡ accounts_of credits
  pub weights_are : RemembersWeights tally tally.window credits
  pub pushes_are : tally.pushes ≡ length credits
  pub unsettled_is : tally.unsettled ≡ is_unsettled credits

-- the work of a push is weighed: by the proportional rule it is added, by PPLNS it enters the
-- window, and as much of the oldest work leaves it as the window is exceeded by
abbrev pub AddsCredit : Option ℕ → List Kept → List ℕ → Kept → List Kept → List ℕ → Type 0
AddsCredit None kept weights credit kept' weights' =
    (weights' ≡ added weights credit.place credit.part) × (kept' ≡ kept)
AddsCredit (Some window) kept weights credit kept' weights' =
    IsCreditWindow kept' weights'
    × (kept' ≡ without_oldest (weights_sum weights + credit.part - window) (kept ++ credit ∷ []))

abbrev pub AddsWork : Weighing → Weighing → List ℕ → ℕ → Type 0
AddsWork old new account work =
    AddsCredit old.window old.kept (with_newcomer account old.accounts (weights_in old))
    (record { place = account_place old.accounts account; part = work }) new.kept (weights_in new)

-- the works of a round are summed by the proportional rule alone
abbrev pub HasRoundsByRule : Option ℕ → List ℕ → Type 0
HasRoundsByRule None round_works = Unit
HasRoundsByRule (Some window) round_works = round_works ≡ []

-- one push more
pub record IsPushed (old new : Weighing) (account : List ℕ) (work : ℕ) : Type 0 where
  pub window_stays : new.window ≡ old.window
  pub accounts_are : new.accounts ≡ with_account account old.accounts
  pub weighed : AddsWork old new account work
  pub rounds : HasRoundsByRule old.window new.round_works
  pub most : AreAtMost (weights_in new)
      (added (with_newcomer account old.accounts (weights_in old))
      (account_place old.accounts account) work)
  pub works_are : new.works
      ≡ added (with_newcomer account old.accounts old.works) (account_place old.accounts account) work
  pub balances_are : new.balances ≡ with_newcomer account old.accounts old.balances
  pub pool_stays : new.pool ≡ old.pool
  pub blocks_stay : new.blocks ≡ old.blocks
  pub pushes_are : new.pushes ≡ old.pushes + 1
  pub unsettled_is : new.unsettled ≡ true

-- by which rule, as a window
abbrev pub window_of : Rule → Option ℕ
window_of rule.Proportional = None
window_of (rule.Pplns window) = Some window

-- by the proportional rule no credit is kept, by PPLNS those in the window
pub record IsFilled (window : ℕ) (kept : List Kept) (weights : List ℕ) : Type 0 where
  pub some : 1 ≤ window
  pub weighed : IsCreditWindow kept weights
  pub within : weights_sum weights ≤ window

abbrev pub KeepsCredits : Option ℕ → List Kept → List ℕ → Type 0
KeepsCredits None kept weights = kept ≡ []
KeepsCredits (Some window) kept weights = IsFilled window kept weights

-- what holds of each tally's parts
pub record IsTallied (window : Option ℕ) (accounts : List (List ℕ)) (weights : List ℕ)
    (kept : List Kept) (sum pushes : ℕ) (unsettled : Bool) : Type 0 where
  pub same_length : length weights ≡ length accounts
  pub summed : sum ≡ weights_sum weights
  pub small : sum ≤ pushes * 2 ^ 60
  pub few : pushes < 2 ^ 24
  pub some : IsTrue unsettled → 1 ≤ sum
  pub short : AllByRecursion (λ account. length account ≤ 255) accounts
  pub keeps : KeepsCredits window kept weights

-- nothing changed but the room
abbrev pub DiffersInRoom : Weighing → Weighing → Type 0
DiffersInRoom old new = new ≡ record {
  window = old.window;
  accounts = old.accounts;
  round_works = old.round_works;
  kept = old.kept;
  works = old.works;
  balances = old.balances;
  pool = old.pool;
  blocks = old.blocks;
  pushes = old.pushes;
  unsettled = old.unsettled;
  room = new.room;
}

-- whatever a tally was told before, it was now told one push more
abbrev pub RemembersPush : Weighing → Weighing → List ℕ → ℕ → Type 0
RemembersPush old new account work =
    (credits : List Booked) → Remembers old credits
    → Remembers new (record { account = account; work = work; reward = None } ∷ credits)
