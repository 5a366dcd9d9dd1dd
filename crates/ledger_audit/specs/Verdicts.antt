-- What is said of a ledger's bytes (this project's own). The first defect in the order of the bytes
-- is told, and at each record first its form, then its hash, then its legality.
use Rattle.std.specs.Prelude.{◌≡◌, ◌≢◌, ◌⊎◌, ℕ, ◌<◌, ◌≤◌, Some, List, [], ◌∷◌, ◌++◌, length, take}
use Rattle.pool_history.specs.declared.causes.Cause.{Cause}
use Rattle.pool_history.specs.declared.events.Event.{Event}
use Rattle.pool_history.specs.Ledger.{ledger_text, ledger_text_1, magic_1, magic_2, record_of}
use Rattle.pool_history.specs.Legal.{cause_of}
use Rattle.pool_history.specs.Sessions.{past_of}
use Rattle.ledger_records.specs.Growing.{hash_after}
use Rattle.ledger_records.specs.Keeping.{IsKept}
use Rattle.ledger_records.specs.WellFormed.{CanBeKept}
use Rattle.ledger_audit.specs.declared.format.Format.{Format}
use Rattle.ledger_audit.specs.declared.format.Format.TheVariants.{Plain, Chained}
use Rattle.ledger_audit.specs.declared.verdict.Verdict.{Verdict}
use Rattle.ledger_audit.specs.declared.verdict.Verdict.TheVariants as verdict

-- the ledger of a history in a format
abbrev pub text_in : Format → List Event → List ℕ
text_in Plain history = ledger_text_1 history
text_in Chained history = ledger_text history

-- bytes begin with the ledger of a legal history that has records, and others follow
pub record BeginsLegal (format : Format) (history : List Event) (bytes rest : List ℕ) : Type 0 where
  pub kept : IsKept history
  pub text : bytes ≡ text_in format history ++ rest

-- bytes begin with the record of an event that can be kept, and others follow
pub record BeginsRecord (event : Event) (bytes rest : List ℕ) : Type 0 where
  pub can_be_kept : CanBeKept event
  pub is : bytes ≡ record_of event ++ rest

-- what follows a record is long enough for its hash, which only a chained ledger has
abbrev pub HasHash : Format → List ℕ → Type 0
HasHash Plain rest = Unit {0}
HasHash Chained rest = 32 ≤ length rest

-- it is the hash over the events
abbrev pub IsChained : Format → List Event → List ℕ → Type 0
IsChained Plain history rest = Unit {0}
IsChained Chained history rest = take 32 rest ≡ hash_after history

-- bytes are the ledger of a legal history that has records
pub record AreLegal (bytes : List ℕ) : Type 0 where
  pub format : Format
  pub history : List Event
  pub whole : BeginsLegal format history bytes []

-- a record with a number is whole and has its hash, and its event has a cause after those before
pub record AreIllegal (bytes : List ℕ) (number : ℕ) (cause : Cause) : Type 0 where
  pub format : Format
  pub before : List Event
  pub event : Event
  pub behind : List ℕ
  pub rest : List ℕ
  pub begins : BeginsLegal format before bytes behind
  pub number_is : number ≡ length before
  pub one : BeginsRecord event behind rest
  pub has_hash : HasHash format rest
  pub chained : IsChained format (before ++ event ∷ []) rest
  pub caused : cause_of (past_of before) event ≡ Some cause

-- a record with a number is whole, and the 32 bytes behind it aren't its hash
pub record AreBroken (bytes : List ℕ) (number : ℕ) : Type 0 where
  pub before : List Event
  pub event : Event
  pub behind : List ℕ
  pub rest : List ℕ
  pub begins : BeginsLegal Chained before bytes behind
  pub number_is : number ≡ length before
  pub one : BeginsRecord event behind rest
  pub has_hash : HasHash Chained rest
  pub broken : IsChained Chained (before ++ event ∷ []) rest → ⊥

-- bytes begin with no magic
pub record HasNoMagic (bytes : List ℕ) : Type 0 where
  pub plain : (rest : List ℕ) → bytes ≢ magic_1 ++ rest
  pub chained : (rest : List ℕ) → bytes ≢ magic_2 ++ rest

-- behind a legal ledger there are bytes that begin with no record that has its hash
pub record EndsInNoRecord (bytes : List ℕ) (place : ℕ) : Type 0 where
  pub format : Format
  pub before : List Event
  pub behind : List ℕ
  pub begins : BeginsLegal format before bytes behind
  pub some : 0 < length behind
  pub place_is : place ≡ length (text_in format before)
  pub none : (event : Event) (rest : List ℕ) → BeginsRecord event behind rest
      → HasHash format rest → ⊥

-- there is no ledger from a place on
abbrev pub AreNoLedger : List ℕ → ℕ → Type 0
AreNoLedger bytes place = ((place ≡ 0) × HasNoMagic bytes) ⊎ EndsInNoRecord bytes place

-- a verdict fits bytes
abbrev pub IsVerdictOf : List ℕ → Verdict → Type 0
IsVerdictOf bytes verdict.Legal = AreLegal bytes
IsVerdictOf bytes (verdict.Illegal number cause) = AreIllegal bytes number cause
IsVerdictOf bytes (verdict.BrokenChain number) = AreBroken bytes number
IsVerdictOf bytes (verdict.NotALedger place) = AreNoLedger bytes place

-- so the ledger that a pool keeps is legal, and one of format 1
abbrev pub KeptLedgersAreLegal : Type 0
KeptLedgersAreLegal =
    (history : List Event) → IsKept history → IsVerdictOf (ledger_text history) verdict.Legal

abbrev pub OldLedgersAreLegal : Type 0
OldLedgersAreLegal =
    (history : List Event) → IsKept history → IsVerdictOf (ledger_text_1 history) verdict.Legal

-- at most one verdict fits any bytes
abbrev pub VerdictsAreOne : Type 0
VerdictsAreOne =
    (bytes : List ℕ) (one other : Verdict) → IsVerdictOf bytes one → IsVerdictOf bytes other
    → one ≡ other
