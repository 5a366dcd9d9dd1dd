-- A push that is planned, and the settlement after it (this project's own).
use Rattle.std.specs.Prelude.{◌≡◌, ℕ, ◌+◌, ◌^◌, ◌<◌, ◌≤◌, Option, None, Some, List, ◌∷◌, length}
use Rattle.std.specs.Option.{option_map}
use Rattle.payout_laws.specs.Conservation.{IsConserved}
use Rattle.pool_history.specs.Crediting.{Booked}
use Rattle.pool_history.specs.Settling.{Settled, parts_in_block, settlement, with_account}
use Rattle.payouts.specs.declared.settlement.Listed.{Listed}
use Rattle.payouts.specs.Sheets.{listed_accounts}
use Rattle.payouts.specs.Tallies.{Remembers, RemembersPush, Weighing, account_place, weights_in, with_newcomer}
use Rattle.payouts.specs.Window.{added}

-- a block that is planned: its reward, its fee and the accounts that it may pay
pub record BlockPlan : Type 0 where
  pub reward : ℕ
  pub fee : ℕ
  pub listed : List Listed

-- a planned push
pub record Planning : Type 0 where
  pub account : List ℕ
  pub work : ℕ
  pub block : Option BlockPlan

-- a push in range, and a reward and a fee in range
pub record IsPlan (account : List ℕ) (work : ℕ) : Type 0 where
  pub short : length account ≤ 255
  pub some : 1 ≤ work
  pub small : work ≤ 2 ^ 60

pub record IsRewarded (reward fee : ℕ) : Type 0 where
  pub payable : reward < 2 ^ 40
  pub part : fee ≤ 10000

abbrev pub IsPayable : Option (ℕ × ℕ) → Type 0
IsPayable None = Unit
IsPayable (Some block) = IsRewarded block.0 block.1

-- a plan is of what was asked for
pub record IsPlanOf (account : List ℕ) (work : ℕ) (block : Option (ℕ × ℕ))
    (plan : Planning) : Type 0 where
  pub account_is : plan.account ≡ account
  pub work_is : plan.work ≡ work
  pub block_is : option_map (λ planned. (planned.reward, planned.fee)) plan.block ≡ block

-- its block lists the accounts that have a weight once the work is added, before any goes
abbrev pub ListsAccounts : Weighing → List ℕ → ℕ → Option BlockPlan → Type 0
ListsAccounts tally account work None = Unit
ListsAccounts tally account work (Some block) =
    block.listed
    ≡ listed_accounts (with_account account tally.accounts)
    (added (with_newcomer account tally.accounts (weights_in tally))
    (account_place tally.accounts account) work)

-- a plan fits a tally that is as it was when the plan was made
pub record Fits (tally : Weighing) (plan : Planning) : Type 0 where
  pub room : 1 ≤ tally.room
  pub few : tally.pushes + 1 < 2 ^ 24
  pub lists : ListsAccounts tally plan.account plan.work plan.block

-- a push that is a block is settled, and remembered as one
pub record IsSettledPush (window : Option ℕ) (new : Weighing) (reward basis_points : ℕ)
    (settled : Settled) (block : Booked) (older : List Booked) : Type 0 where
  pub by_weights : settled ≡ settlement window basis_points reward (block ∷ older)
  pub remembers : Remembers new (block ∷ older)
  pub conserved : IsConserved basis_points reward (parts_in_block window (block ∷ older)) settled

-- a plan is applied: a push, and its settlement where it is a block
abbrev pub Applies : Weighing → Weighing → List ℕ → ℕ → Option BlockPlan → Option Settled → Type 0
Applies old new account work None None = RemembersPush old new account work
Applies old new account work (Some block) (Some settled) =
    (credits : List Booked) → Remembers old credits
    → IsSettledPush old.window new block.reward block.fee settled
    (record { account = account; work = work; reward = Some block.reward }) credits
Applies old new account work None (Some settled) = ⊥
Applies old new account work (Some block) None = ⊥
