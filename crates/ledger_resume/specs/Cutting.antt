-- How records are cut (this project's own).
use Rattle.std.specs.Prelude.{◌≡◌, ℕ, ◌+◌, if◌then◌else◌, Bool, List, drop, length}
use Rattle.pool_history.specs.declared.events.Event.{Event}
use Rattle.ledger_records.specs.Keeping.{IsLedgerOf}
use Rattle.ledger_records.specs.Records.{said_body_len}

-- bytes are the ledger of some history
abbrev pub AreLedger : List ℕ → Type 0
AreLedger bytes = (history : List Event) × IsLedgerOf history bytes

-- bytes are as long as the record that their first four say, and 32 more
abbrev pub IsAsLongAsSaid : List ℕ → Type 0
IsAsLongAsSaid bytes = length bytes ≡ 4 + said_body_len bytes + 32

-- the magic stands before the first record
abbrev pub lead_len : Bool → ℕ
lead_len is_first = if is_first then 8 else 0

-- so they are, behind the magic if they are first
abbrev pub IsCutAsPiece : Bool → List ℕ → Type 0
IsCutAsPiece is_first bytes = IsAsLongAsSaid (drop (lead_len is_first) bytes)
