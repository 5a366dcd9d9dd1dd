-- The summary over the sums of a tally, and the histories whose summary it is (this project's own).
use Rattle.std.specs.Prelude.{◌≡◌, ℕ, Option, None, Some, List, [], ◌++◌, length, map, codes, slice_index, slice_index_or}
use Rattle.std.specs.List.{range_with_len}
use Rattle.pool_history.specs.declared.events.Event.{Event}
use Rattle.pool_history.specs.declared.settings.Rules.{Rules}
use Rattle.pool_history.specs.Crediting.{Booked, bookings_of}
use Rattle.pool_history.specs.Sessions.{rules_of}
use Rattle.pool_history.specs.Summary.{AccountSum, Summary, line}
use Rattle.payouts.specs.Tallies.{Remembers, Weighing}
use Rattle.payouts.specs.Totals.{HasSums}

-- the sums of the account at a place
abbrev pub sums_at : Weighing → ℕ → AccountSum
sums_at tally place = record {
  account = slice_index_or tally.accounts place [];
  work = slice_index tally.works place;
  balance = slice_index tally.balances place;
}

-- the sums of all accounts, in the order of their first push
abbrev pub account_sums : Weighing → List AccountSum
account_sums tally = map (sums_at tally) (range_with_len 0 (length tally.accounts))

-- the numbers of a summary, with those of a tally
abbrev pub summary_in : ℕ → ℕ → Weighing → Summary
summary_in sessions events tally = record {
  sessions = sessions;
  events = events;
  credits = tally.pushes;
  blocks = tally.blocks;
  pool = tally.pool;
  accounts = account_sums tally;
}

-- the lines before those of the accounts
abbrev pub counted_lines : Summary → List ℕ
counted_lines sums =
    line (codes "sessions") sums.sessions ++ line (codes "events") sums.events
    ++ line (codes "credits") sums.credits
    ++ line (codes "blocks") sums.blocks ++ line (codes "pool") sums.pool

-- a tally's sums are those of these credits by some rules; without rules there is no credit
abbrev pub HasSumsBy : Weighing → Option Rules → List Booked → Type 0
HasSumsBy tally None credits = (credits ≡ []) × HasSums tally 0 credits
HasSumsBy tally (Some rules) credits =
    (tally.window ≡ rules.window) × HasSums tally rules.fee credits

-- a tally was told the credits of a history, and settled its blocks by its rules
pub record IsToldHistory (tally : Weighing) (past : List Event) : Type 0 where
  pub remembers : Remembers tally (bookings_of past)
  pub summed : HasSumsBy tally (rules_of past) (bookings_of past)
