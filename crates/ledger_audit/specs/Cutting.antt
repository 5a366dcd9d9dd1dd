-- Records at the front of bytes (this project's own).
use Rattle.std.specs.Prelude.{ℕ, ◌≡◌, ◌≢◌, ◌⊎◌, ◌+◌, ◌<◌, ◌≤◌, List, ◌++◌, drop, length}
use Rattle.pool_history.specs.Ledger.{magic_2}
use Rattle.ledger_records.specs.Records.{said_body_len}
use Rattle.ledger_audit.specs.declared.format.Format.{Format}
use Rattle.ledger_audit.specs.declared.format.Format.TheVariants.{Plain, Chained}
use Rattle.ledger_audit.specs.Units.{hash_len, unit_len}

-- a record of the length that it says, which is in the limit, then its hash, then what is behind
pub record IsWholeRecord (format : Format) (bytes one behind : List ℕ) : Type 0 where
  pub hash : List ℕ
  pub len : length one ≡ 4 + said_body_len bytes
  pub short : said_body_len bytes ≤ 300000
  pub hash_is : length hash ≡ hash_len format
  pub parts : bytes ≡ one ++ (hash ++ behind)

-- the bytes end before all of that is there, or say too long a body
abbrev pub IsCutOff : Format → List ℕ → Type 0
IsCutOff format bytes = (length bytes < 4) ⊎ (300000 < said_body_len bytes)
    ⊎ (length bytes < unit_len format bytes)

-- the magic of format 2 and what is behind it; or there is none, and this is behind eight bytes
abbrev pub SplitsMagic : Format → List ℕ → List ℕ → Type 0
SplitsMagic Chained bytes records = bytes ≡ magic_2 ++ records
SplitsMagic Plain bytes records =
    ((rest : List ℕ) → bytes ≢ magic_2 ++ rest) × (records ≡ drop 8 bytes)
