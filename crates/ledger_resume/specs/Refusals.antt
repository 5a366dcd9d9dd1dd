-- Why records are those of no history (this project's own).
use Rattle.std.specs.Prelude.{◌≡◌, ◌⊎◌, ℕ, IfSome, Option, List, [], ◌∷◌, ◌++◌, length}
use Rattle.pool_base.specs.Lists.{Begins}
use Rattle.pool_history.specs.declared.causes.Cause.{Cause}
use Rattle.pool_history.specs.declared.events.Event.{Event}
use Rattle.pool_history.specs.Ledger.{magic_2}
use Rattle.ledger_audit.specs.declared.verdict.Verdict.{Verdict}
use Rattle.ledger_audit.specs.declared.verdict.Verdict.TheVariants as verdict
use Rattle.ledger_audit.specs.Judging.{in_a_row}
use Rattle.ledger_audit.specs.Verdicts.{IsVerdictOf}
use Rattle.ledger_records.specs.Keeping.{IsLedgerOf}
use Rattle.share_ledger.specs.Recovery.{pieces_of}
use Rattle.ledger_resume.specs.declared.error.ResumeError.{ResumeError}
use Rattle.ledger_resume.specs.declared.error.ResumeError.TheVariants as error
use Rattle.ledger_resume.specs.Histories.{IsHistoryOf}

-- bytes begin with the magic of format 2
abbrev pub HaveMagic : List ℕ → Type 0
HaveMagic bytes = Begins magic_2 bytes

-- a verdict on bytes as a ledger of format 2: without its magic they are none from the first byte on
abbrev pub IsVerdictInFormat2 : List ℕ → Verdict → Type 0
IsVerdictInFormat2 bytes v =
    (HaveMagic bytes × IsVerdictOf bytes v) ⊎ ((HaveMagic bytes → ⊥) × (v ≡ verdict.NotALedger 0))

-- The bytes of the records are a ledger in a row, but they aren't cut as its pieces are: the record
-- that begins at this place is the first that is none of them. (The magic alone is no piece.)
pub record AreCutOtherwise (records : List (List ℕ)) (place : ℕ) : Type 0 where
  pub history : List Event
  pub ledger : IsLedgerOf history (in_a_row records)
  pub front : List (List ℕ)
  pub one : List ℕ
  pub more : List (List ℕ)
  pub parts : records ≡ front ++ one ∷ more
  pub pieces : Begins front (pieces_of history)
  pub other : Begins (front ++ one ∷ []) (pieces_of history) → ⊥
  pub place_is : place ≡ length (in_a_row front)

-- an error fits records
abbrev pub IsRefusalOf : List (List ℕ) → ResumeError → Type 0
IsRefusalOf records (error.NotALedger place) =
    IsVerdictInFormat2 (in_a_row records) (verdict.NotALedger place) ⊎ AreCutOtherwise records place
IsRefusalOf records (error.Broken number) =
    IsVerdictInFormat2 (in_a_row records) (verdict.BrokenChain number)
IsRefusalOf records (error.Illegal number) =
    (cause : Cause) × IsVerdictInFormat2 (in_a_row records) (verdict.Illegal number cause)
IsRefusalOf records error.Memory = Unit {0}

-- the records of a history have no refusal but for want of memory
abbrev pub HistoriesAreNotRefused : Type 0
HistoriesAreNotRefused =
    (records : List (List ℕ)) (history : List Event) (refusal : ResumeError)
    → IsHistoryOf records history → IsRefusalOf records refusal → refusal ≡ error.Memory

-- a keeper that tells its records has just these
abbrev pub TellsJust : Option (List (List ℕ)) → List (List ℕ) → Type 0
TellsJust told records = IfSome told (λ kept. kept ≡ records)
