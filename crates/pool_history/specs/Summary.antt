-- The numbers of a history, and the text in which they are printed (this project's own).
-- Computed on the worked session (`Settlements`, `WorkedSession` of `ledger_laws`).
use Rattle.std.specs.Prelude.{ℕ, Option, None, Some, is_some, List, [], ◌∷◌, ◌++◌, length, map, count_by, sum_by, codes}
use Rattle.std.specs.List.{flat_map}
use Rattle.std.specs.Fmt.{decimal}
use Rattle.pool_history.specs.declared.events.Event.{Event}
use Rattle.pool_history.specs.declared.settings.Rules.{Rules}
use Rattle.pool_history.specs.Crediting.{Booked, bookings_of}
use Rattle.pool_history.specs.Sessions.{enters, rules_of}
use Rattle.pool_history.specs.Settling.{Settled, accounts_of, balance, settlements, work_for}

-- an account's work and balance
pub record AccountSum : Type 0 where
  pub account : List ℕ
  pub work : ℕ
  pub balance : ℕ

-- the numbers of a summary
pub record Summary : Type 0 where
  pub sessions : ℕ
  pub events : ℕ
  pub credits : ℕ
  pub blocks : ℕ
  pub pool : ℕ
  pub accounts : List AccountSum

-- the sums of an account
abbrev pub sums_of : List Booked → List Settled → List ℕ → AccountSum
sums_of credits settled account =
    record { account = account; work = work_for account credits; balance = balance account settled }

-- the numbers of credits and their settlements
abbrev pub summed : ℕ → ℕ → List Booked → List Settled → Summary
summed sessions events credits settled = record {
  sessions = sessions;
  events = events;
  credits = length credits;
  blocks = count_by (λ credit. is_some credit.reward) credits;
  pool = sum_by (λ settled. settled.pool) settled;
  accounts = map (sums_of credits settled) (accounts_of credits);
}

-- the settlements of a history, by its rules
abbrev pub settlements_by : Option Rules → List Booked → List Settled
settlements_by None credits = []
settlements_by (Some rules) credits = settlements rules.window rules.fee credits

-- the numbers of a history
abbrev pub summary_of : List Event → Summary
summary_of past =
    summed (enters past) (length past) (bookings_of past)
    (settlements_by (rules_of past) (bookings_of past))

-- a word, a blank, a number and a line feed
abbrev pub line : List ℕ → ℕ → List ℕ
line word number = word ++ 32 ∷ decimal number ++ 10 ∷ []

-- an account's line
abbrev pub account_line : AccountSum → List ℕ
account_line sums =
    codes "account " ++ sums.account ++ 32 ∷ decimal sums.work ++ 32 ∷ decimal sums.balance
    ++ 10 ∷ []

-- the text of a summary
abbrev pub summary_text : Summary → List ℕ
summary_text sums =
    line (codes "sessions") sums.sessions ++ line (codes "events") sums.events
    ++ line (codes "credits") sums.credits
    ++ line (codes "blocks") sums.blocks ++ line (codes "pool") sums.pool
    ++ flat_map account_line sums.accounts
