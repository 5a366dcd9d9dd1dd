-- What the summary of a history says, by its credits and its blocks (this project's own).
use Rattle.std.specs.Prelude.{◌≡◌, ℕ, IsTrue, ◌↔◌, Bool, Some, List, length, map, sum_by}
use Rattle.std.specs.List.{AllByRecursion, list_any}
use Rattle.std.specs.Str.{bytes_eq}
use Rattle.pool_history.specs.declared.events.Event.{Event}
use Rattle.pool_history.specs.declared.settings.Rules.{Rules}
use Rattle.pool_history.specs.Accounts.{are_distinct}
use Rattle.pool_history.specs.Crediting.{Booked, bookings_of}
use Rattle.pool_history.specs.Legal.{Legal}
use Rattle.pool_history.specs.Sessions.{past_of, rules_of}
use Rattle.pool_history.specs.Sessions as sessions
use Rattle.pool_history.specs.Settling.{work_for}
use Rattle.pool_history.specs.Summary.{AccountSum, Summary, summary_of}
use Rattle.payout_laws.specs.Blocks.{blocks_of, settled_block}
use Rattle.payout_laws.specs.Payouts.{due_of}

-- an account is among those of a summary, and has a credit
abbrev pub is_listed : List AccountSum → List ℕ → Bool
is_listed sums account = list_any (bytes_eq account) (map (λ sum. sum.account) sums)

abbrev pub has_credit : List Booked → List ℕ → Bool
has_credit credits account = list_any (λ credit. bytes_eq credit.account account) credits

-- an account's balance is what all blocks owe it, and its work that of its credits
pub record IsOfBlocks (rules : Rules) (credits : List Booked) (sum : AccountSum) : Type 0 where
  pub balance : sum.balance ≡ sum_by (due_of rules.window rules.fee sum.account) (blocks_of credits)
  pub work : sum.work ≡ work_for sum.account credits

-- a summary of a history under its rules
pub record IsSummedUp (history : List Event) (rules : Rules) (summary : Summary) : Type 0 where
  -- each account with a credit stands in it once, and no other
  pub each : AllByRecursion (IsOfBlocks rules (bookings_of (past_of history))) summary.accounts
  pub once : IsTrue (are_distinct (map (λ sum. sum.account) summary.accounts))
  pub exactly : (account : List ℕ)
      → IsTrue (is_listed summary.accounts account)
      ↔ IsTrue (has_credit (bookings_of (past_of history)) account)
  -- the pool has what it keeps of each block
  pub pool : summary.pool
      ≡ sum_by (λ block. (settled_block rules.window rules.fee block).pool)
      (blocks_of (bookings_of (past_of history)))
  pub blocks : summary.blocks ≡ length (blocks_of (bookings_of (past_of history)))
  pub credits : summary.credits ≡ length (bookings_of (past_of history))
  -- in a legal history those are its Credit events
  pub counted : Legal history → summary.credits ≡ sessions.credits (past_of history)

-- so is the summary of each history that begins with rules
abbrev pub SummariesAreOfBlocks : Type 0
SummariesAreOfBlocks =
    (history : List Event) (rules : Rules) → rules_of (past_of history) ≡ Some rules
    → IsSummedUp history rules (summary_of (past_of history))
