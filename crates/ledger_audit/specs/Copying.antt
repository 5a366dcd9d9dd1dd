-- What the copy of a ledger owes (this project's own).
use Rattle.std.specs.Prelude.{ℕ, ◌≡◌, List, [], ◌∷◌, ◌++◌, length, Option, Result, Ok, Err}
use Rattle.std.specs.List.{flat_map}
use Rattle.std.specs.Option.{option_map}
use Rattle.pool_base.specs.Lists.{Begins}
use Rattle.pool_history.specs.declared.events.Event.{Event}
use Rattle.pool_history.specs.Ledger.{chained, kept_records, magic_2, record_of}
use Rattle.sha2.specs.Sha256.{sha256}
use Rattle.ledger_records.specs.OneLedger.{AllCanBeKept}
use Rattle.pool_io.specs.declared.keeper.KeeperFailed.{KeeperFailed}
use Rattle.stream_commands.specs.Duties.{Duty}
use Rattle.ledger_audit.specs.declared.format.Format.{Format}
use Rattle.ledger_audit.specs.declared.format.Format.TheVariants.{Plain, Chained}
use Rattle.ledger_audit.specs.Auditing.{HasAudited}
use Rattle.ledger_audit.specs.Duty.{EndsEarly, IsPrinted, IsRefusedAs, IsUndecided}
use Rattle.ledger_audit.specs.Verdicts.{AreLegal, BeginsLegal}
use Rattle.ledger_audit.specs.declared.copying.Copier.{Copier}

-- the bytes are a legal ledger, and are handed on as they are
pub record IsCopied (bytes text : List ℕ) : Type 0 where
  pub legal : AreLegal bytes
  pub same : text ≡ bytes

-- a legal ledger is handed on; another is refused as by an audit
abbrev pub copying_duty : Duty
copying_duty = record {
  Whole = IsCopied;
  Refused = λ bytes text. IsPrinted (IsRefusedAs bytes) text;
  Cut = λ bytes text. IsPrinted (EndsEarly bytes) text;
  SoFar = IsUndecided;
}

-- what was read was audited and kept
pub record HasCopied (copier : Copier) (bytes text : List ℕ) : Type 0 where
  pub audited : HasAudited copier.auditor bytes text
  pub kept : copier.bytes.items ≡ bytes

-- the bytes are the ledger of this history, in one of the formats
pub record AreLedgerOf (history : List Event) (bytes : List ℕ) : Type 0 where
  pub format : Format
  pub whole : BeginsLegal format history bytes []

-- a keeper that tells its records keeps these more, behind the others
abbrev pub AddsRecords : Option (List (List ℕ)) → Option (List (List ℕ)) → List (List ℕ) → Type 0
AddsRecords old new more = new ≡ option_map (λ records. records ++ more) old

-- all pieces of a history's ledger were kept, and counted are its events
pub record KeepsAll (history : List Event) (old new : Option (List (List ℕ))) (count : ℕ) : Type 0
  where
    pub counted : count ≡ length history
    pub kept : AddsRecords old new (kept_records history)

-- those up to one that was not
pub record KeepsFront (history : List Event) (old new : Option (List (List ℕ))) : Type 0 where
  pub front : List (List ℕ)
  pub begins : Begins front (kept_records history)
  pub kept : AddsRecords old new front

-- records behind a hash, as they stand in a format
abbrev pub records_text : Format → List ℕ → List Event → List ℕ
records_text Plain before history = flat_map record_of history
records_text Chained before history = flat_map (λ piece. piece) (chained before history)

-- bytes are the records of a history that has some, behind a magic
pub record AreRecordsOf (format : Format) (first : Event) (more : List Event) (bytes : List ℕ)
    : Type 0 where
  pub each : AllCanBeKept (first ∷ more)
  pub text : bytes ≡ records_text format (sha256 magic_2) (first ∷ more)

-- what was kept of such records
abbrev pub KeepsRecords : Format → List ℕ → Option (List (List ℕ)) → Option (List (List ℕ))
    → Result ℕ KeeperFailed → Type 0
KeepsRecords format bytes old new (Ok count) =
    (first : Event) (more : List Event) → AreRecordsOf format first more bytes
    → KeepsAll (first ∷ more) old new count
KeepsRecords format bytes old new (Err error) =
    (first : Event) (more : List Event) → AreRecordsOf format first more bytes
    → KeepsFront (first ∷ more) old new

-- what was kept of the history that a ledger's bytes say
abbrev pub KeepsAgain : List ℕ → Option (List (List ℕ)) → Option (List (List ℕ))
    → Result ℕ KeeperFailed → Type 0
KeepsAgain bytes old new (Ok count) =
    (history : List Event) → AreLedgerOf history bytes → KeepsAll history old new count
KeepsAgain bytes old new (Err error) =
    (history : List Event) → AreLedgerOf history bytes → KeepsFront history old new
