-- A record with what belongs to it, at the front of bytes (this project's own).
use Rattle.std.specs.Prelude.{ℕ, ◌+◌, ◌-◌, if◌then◌else◌, List, length, nat_lt}
use Rattle.ledger_records.specs.Records.{said_body_len}
use Rattle.ledger_audit.specs.declared.format.Format.{Format}
use Rattle.ledger_audit.specs.declared.format.Format.TheVariants.{Plain, Chained}

-- how long the hash behind each record is
abbrev pub hash_len : Format → ℕ
hash_len Plain = 0
hash_len Chained = 32

-- how long a record and its hash are, as the record's first four bytes say
abbrev pub unit_len : Format → List ℕ → ℕ
unit_len format bytes = 4 + said_body_len bytes + hash_len format

-- how many bytes more it takes to tell what the record at the front of the bytes is: none where it
-- is there with its hash, or where it says a body of over 300,000 bytes
abbrev pub lacking : Format → List ℕ → ℕ
lacking format bytes =
    if nat_lt (length bytes) 4
    then 4 - length bytes
    else (if nat_lt 300000 (said_body_len bytes) then 0 else unit_len format bytes - length bytes)
