-- Which history records are of (this project's own).
use Rattle.std.specs.Prelude.{◌≡◌, ℕ, List}
use Rattle.pool_history.specs.declared.events.Event.{Event}
use Rattle.pool_history.specs.Ledger.{kept_records}
use Rattle.history_laws.specs.Legality.{Starts}
use Rattle.ledger_records.specs.Keeping.{IsKept}

-- a history that begins, is legal and has a ledger is kept as just these records: the magic with the
-- first event's, then one for each event more
pub record IsHistoryOf (records : List (List ℕ)) (history : List Event) : Type 0 where
  pub kept : IsKept history
  pub begun : Starts history
  pub pieces : records ≡ kept_records history
