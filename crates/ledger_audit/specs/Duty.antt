-- What an audit owes for the bytes of a ledger (this project's own).
use Rattle.std.specs.Prelude.{ℕ, ◌≡◌, ◌⊎◌, ◌<◌, ◌≤◌, List, [], ◌++◌, length}
use Rattle.pool_history.specs.declared.events.Event.{Event}
use Rattle.pool_history.specs.Sessions.{past_of}
use Rattle.pool_history.specs.Summary.{summary_of, summary_text}
use Rattle.stream_commands.specs.Duties.{Duty}
use Rattle.ledger_audit.specs.declared.format.Format.{Format}
use Rattle.ledger_audit.specs.declared.verdict.Verdict.{Verdict}
use Rattle.ledger_audit.specs.declared.verdict.Verdict.TheVariants as verdict
use Rattle.ledger_audit.specs.Lines.{verdict_line}
use Rattle.ledger_audit.specs.Stops.{StopsLedgerBy}
use Rattle.ledger_audit.specs.Units.{lacking}
use Rattle.ledger_audit.specs.Verdicts.{AreNoLedger, BeginsLegal, HasNoMagic}

-- what is printed of a legal ledger
abbrev pub legal_text : List Event → List ℕ
legal_text history = verdict_line verdict.Legal ++ summary_text (summary_of (past_of history))

-- the bytes are the ledger of a legal history that has records, and its summary was printed
pub record IsAuditedLegal (bytes text : List ℕ) : Type 0 where
  pub format : Format
  pub history : List Event
  pub whole : BeginsLegal format history bytes []
  pub printed : text ≡ legal_text history

-- The bytes are a legal ledger up to their last record, which is there with its hash or says too
-- long a body; it is no part of a legal ledger, and this verdict says why, whatever follows.
pub record HasDefect (bytes : List ℕ) (v : Verdict) : Type 0 where
  pub format : Format
  pub before : List Event
  pub behind : List ℕ
  pub begins : BeginsLegal format before bytes behind
  pub decided : lacking format behind ≡ 0
  pub stops : (more : List ℕ) → StopsLedgerBy format before (behind ++ more) v

-- eight bytes are there, and they are no magic
pub record HasOtherMagic (bytes : List ℕ) (v : Verdict) : Type 0 where
  pub eight : 8 ≤ length bytes
  pub none : HasNoMagic bytes
  pub said : v ≡ verdict.NotALedger 0

-- the bytes are refused, whatever follows them
abbrev pub IsRefusedAs : List ℕ → Verdict → Type 0
IsRefusedAs bytes v = HasOtherMagic bytes v ⊎ HasDefect bytes v

-- the line of a verdict was printed that the bytes have
pub record IsPrinted (Has : Verdict → Type 0) (text : List ℕ) : Type 0 where
  pub one : Verdict
  pub has : Has one
  pub printed : text ≡ verdict_line one

-- the bytes end where there is no ledger from a place on
abbrev pub EndsEarly : List ℕ → Verdict → Type 0
EndsEarly bytes v = (place : ℕ) × (v ≡ verdict.NotALedger place) × AreNoLedger bytes place

-- The bytes are a legal ledger, and then what isn't yet a record with its hash.
pub record IsUnfinished (bytes : List ℕ) : Type 0 where
  pub format : Format
  pub before : List Event
  pub behind : List ℕ
  pub begins : BeginsLegal format before bytes behind
  pub undecided : 0 < lacking format behind

-- nothing was found so far, and nothing printed
pub record IsUndecided (bytes text : List ℕ) : Type 0 where
  pub printed : text ≡ []
  pub underway : (length bytes < 8) ⊎ IsUnfinished bytes

-- the duty of an audit
abbrev pub audit_duty : Duty
audit_duty = record {
  Whole = IsAuditedLegal;
  Refused = λ bytes text. IsPrinted (IsRefusedAs bytes) text;
  Cut = λ bytes text. IsPrinted (EndsEarly bytes) text;
  SoFar = IsUndecided;
}
