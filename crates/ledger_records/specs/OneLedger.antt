-- A record has one spelling and a ledger is of one history (this project's own).
use Rattle.std.specs.Prelude.{◌≡◌, ℕ, ◌≤◌, List, [], ◌++◌, length}
use Rattle.std.specs.List.{AllByRecursion}
use Rattle.pool_base.specs.Lists.{Begins}
use Rattle.pool_history.specs.declared.events.Event.{Event}
use Rattle.pool_history.specs.Ledger.{ledger_text, ledger_text_1, record_of}
use Rattle.ledger_records.specs.WellFormed.{CanBeKept}

-- the same event was read, and the same bytes follow
pub record ReadsTheSame (one other : Event) (behind_one behind_other : List ℕ) : Type 0 where
  pub events : one ≡ other
  pub behind : behind_one ≡ behind_other

-- a record is read back from its spelling, whatever follows
abbrev pub RecordsAreReadBack : Type 0
RecordsAreReadBack =
    (one other : Event) (behind_one behind_other : List ℕ) → CanBeKept one → CanBeKept other
    → record_of one ++ behind_one ≡ record_of other ++ behind_other
    → ReadsTheSame one other behind_one behind_other

-- two events with the same record are one
abbrev pub RecordsAreOfOneEvent : Type 0
RecordsAreOfOneEvent =
    (one other : Event) → CanBeKept one → CanBeKept other → record_of one ≡ record_of other
    → one ≡ other

-- no record begins another
abbrev pub NoRecordBeginsAnother : Type 0
NoRecordBeginsAnother =
    (one other : Event) (more : List ℕ) → CanBeKept one → CanBeKept other
    → record_of one ++ more ≡ record_of other → more ≡ []

-- each event of the history can be kept
abbrev pub AllCanBeKept : List Event → Type 0
AllCanBeKept history = AllByRecursion CanBeKept history

-- two histories with the same ledger are one, in format 2 and in format 1
abbrev pub LedgersAreOfOneHistory : Type 0
LedgersAreOfOneHistory =
    (one other : List Event) → AllCanBeKept one → AllCanBeKept other
    → ledger_text one ≡ ledger_text other → one ≡ other

abbrev pub OldLedgersAreOfOneHistory : Type 0
OldLedgersAreOfOneHistory =
    (one other : List Event) → AllCanBeKept one → AllCanBeKept other
    → ledger_text_1 one ≡ ledger_text_1 other → one ≡ other

-- where the same bytes begin with the ledgers of two histories, one of the histories begins the
-- other
abbrev pub LedgersBeginAlike : Type 0
LedgersBeginAlike =
    (one other : List Event) (behind_one behind_other : List ℕ) → AllCanBeKept one
    → AllCanBeKept other → length one ≤ length other
    → ledger_text one ++ behind_one ≡ ledger_text other ++ behind_other → Begins one other

abbrev pub OldLedgersBeginAlike : Type 0
OldLedgersBeginAlike =
    (one other : List Event) (behind_one behind_other : List ℕ) → AllCanBeKept one
    → AllCanBeKept other → length one ≤ length other
    → ledger_text_1 one ++ behind_one ≡ ledger_text_1 other ++ behind_other → Begins one other

-- no bytes begin with a ledger of format 2 and with one of format 1
abbrev pub FormatsDiffer : Type 0
FormatsDiffer =
    (one other : List Event) (behind_one behind_other : List ℕ)
    → ledger_text one ++ behind_one ≡ ledger_text_1 other ++ behind_other → ⊥
