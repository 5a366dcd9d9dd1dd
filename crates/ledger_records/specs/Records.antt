-- Where bytes begin with a record (this project's own).
use Rattle.std.specs.Prelude.{◌≡◌, ℕ, ◌+◌, ◌≤◌, Bool, ◌&&◌, ◌||◌, nat_lt, nat_le, Result, Ok, Err, List, length, take, drop}
use Rattle.sv2_types.specs.Reading.{said}
use Rattle.pool_history.specs.declared.events.Event.{Event}
use Rattle.pool_history.specs.Ledger.{record_of}
use Rattle.ledger_records.specs.WellFormed.{CanBeKept}
use Rattle.ledger_records.specs.declared.error.RecordError.{RecordError}
use Rattle.ledger_records.specs.declared.error.RecordError.TheVariants as errors

-- how long the first four bytes say that a body is
abbrev pub said_body_len : List ℕ → ℕ
said_body_len bytes = said 3 (drop 1 bytes)

-- the bytes end inside of a record: there are fewer than four, or they say a body of at most
-- 300,000 bytes that isn't all there
abbrev pub is_cut : List ℕ → Bool
is_cut bytes =
    nat_lt (length bytes) 4
    || nat_le (said_body_len bytes) 300000 && nat_lt (length bytes) (4 + said_body_len bytes)

-- the whole body is there, and the bytes up to its end are no record
pub record AreNoRecord (bytes : List ℕ) : Type 0 where
  pub whole : 4 + said_body_len bytes ≤ length bytes
  pub none : (one : Event) → CanBeKept one → take (4 + said_body_len bytes) bytes ≡ record_of one → ⊥

-- the bytes begin with no record, whatever follows: the first four say a longer body, or the bytes
-- up to its end are no record
pub record BeginsWithNoRecord (bytes : List ℕ) : Type 0 where
  pub four : 4 ≤ length bytes
  pub short : said_body_len bytes ≤ 300000 → AreNoRecord bytes

-- the first so many bytes are the record of this event
pub record IsRecordOf (bytes : List ℕ) (len : ℕ) (one : Event) : Type 0 where
  pub can_be_kept : CanBeKept one
  pub whole : len ≡ length (record_of one)
  pub is : take len bytes ≡ record_of one

-- the event was read with the length of its record, or memory ran out
abbrev pub IsReadAs : Event → Result (Event × ℕ) RecordError → Type 0
IsReadAs one (Ok read) = (read.0 ≡ one) × (read.1 ≡ length (record_of one))
IsReadAs one (Err errors.NotWhole) = ⊥
IsReadAs one (Err errors.NoRecord) = ⊥
IsReadAs one (Err errors.Memory) = Unit {0}

-- no record was read, or memory ran out
abbrev pub IsRefused : Result (Event × ℕ) RecordError → Type 0
IsRefused (Ok read) = ⊥
IsRefused (Err errors.NotWhole) = ⊥
IsRefused (Err errors.NoRecord) = Unit {0}
IsRefused (Err errors.Memory) = Unit {0}
