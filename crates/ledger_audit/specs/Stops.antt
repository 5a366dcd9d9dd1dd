-- Why a ledger goes no further behind a legal history (this project's own).
use Rattle.std.specs.Prelude.{◌≡◌, ℕ, ◌<◌, Some, List, [], ◌∷◌, ◌++◌, length}
use Rattle.pool_history.specs.declared.causes.Cause.{Cause}
use Rattle.pool_history.specs.declared.events.Event.{Event}
use Rattle.pool_history.specs.Legal.{cause_of}
use Rattle.pool_history.specs.Sessions.{past_of}
use Rattle.ledger_audit.specs.declared.format.Format.{Format}
use Rattle.ledger_audit.specs.declared.verdict.Verdict.{Verdict}
use Rattle.ledger_audit.specs.declared.verdict.Verdict.TheVariants as verdict
use Rattle.ledger_audit.specs.Verdicts.{BeginsRecord, HasHash, IsChained, text_in}

-- the next record is whole and has its hash, and its event has a cause
pub record StopsByCause (format : Format) (before : List Event) (behind : List ℕ) (number : ℕ)
    (cause : Cause) : Type 0 where
  pub event : Event
  pub rest : List ℕ
  pub number_is : number ≡ length before
  pub one : BeginsRecord event behind rest
  pub has_hash : HasHash format rest
  pub is_chained : IsChained format (before ++ event ∷ []) rest
  pub caused : cause_of (past_of before) event ≡ Some cause

-- the next record is whole, and what stands behind it is another hash
pub record StopsByHash (format : Format) (before : List Event) (behind : List ℕ) (number : ℕ)
    : Type 0 where
  pub event : Event
  pub rest : List ℕ
  pub number_is : number ≡ length before
  pub one : BeginsRecord event behind rest
  pub has_hash : HasHash format rest
  pub broken : IsChained format (before ++ event ∷ []) rest → ⊥

-- there are bytes, and they begin with no record that has its hash
pub record StopsByForm (format : Format) (before : List Event) (behind : List ℕ) (place : ℕ)
    : Type 0 where
  pub some : 0 < length behind
  pub place_is : place ≡ length (text_in format before)
  pub none : (event : Event) (rest : List ℕ) → BeginsRecord event behind rest
      → HasHash format rest → ⊥

-- the reason that a verdict says
abbrev pub StopsLedgerBy : Format → List Event → List ℕ → Verdict → Type 0
StopsLedgerBy format before behind verdict.Legal = behind ≡ []
StopsLedgerBy format before behind (verdict.Illegal number cause) =
    StopsByCause format before behind number cause
StopsLedgerBy format before behind (verdict.BrokenChain number) = StopsByHash format before behind number
StopsLedgerBy format before behind (verdict.NotALedger place) = StopsByForm format before behind place
