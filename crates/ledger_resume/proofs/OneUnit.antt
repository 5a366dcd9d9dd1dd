-- One record with its hash, and nothing else.
use Rattle.std.proofs.Common.{◌≡◌, ◌⊎◌, ℕ, ◌+◌, ◌≤◌, Ok, Err, Result, List, [], ◌∷◌, ◌++◌, length, take, drop, refl, ap, subst, sym, ◌∙◌, arith}
use Rattle.std.proofs.lemmas.List.{drop_at, take-append-drop}
use Rattle.pool_history.specs.declared.events.Event.{Event}
use Rattle.pool_history.specs.Ledger.{chain, record_of}
use Rattle.ledger_records.specs.WellFormed.{CanBeKept}
use Rattle.ledger_records.specs.Pieces.{piece_behind}
use Rattle.ledger_records.specs.Records.{IsReadAs, IsRecordOf}
use Rattle.ledger_records.specs.declared.error.RecordError.{RecordError}
use Rattle.ledger_records.specs.declared.error.RecordError.TheVariants as errors
use Rattle.ledger_resume.specs.Restoring.{AreNoUnit, IsUnitOf}

-- what a record that would be there is read as
abbrev pub ReadsOnly : List ℕ → Result (Event × ℕ) RecordError → Type 0
ReadsOnly bytes result = (one : Event) (more : List ℕ) → CanBeKept one → bytes ≡ record_of one ++ more → IsReadAs one result

pub unread : (before bytes : List ℕ) (error : RecordError) → (error ≡ errors.Memory → ⊥) → ReadsOnly bytes (Err error) → AreNoUnit before bytes
unread before bytes errors.NotWhole some only = λ e can is. only e (chain before (record_of e)) can is
unread before bytes errors.NoRecord some only = λ e can is. only e (chain before (record_of e)) can is
unread before bytes errors.Memory some only = absurd (some refl)

module _ (before bytes : List ℕ) (event : Event) (len : ℕ) (read : IsRecordOf bytes len event) (hash : List ℕ) (hashed : hash ≡ chain before (take len bytes)) where
  own_hash : hash ≡ chain before (record_of event)
  own_hash = hashed ∙ ap (chain before) read.is

  pub is_unit : drop len bytes ≡ hash → IsUnitOf before bytes event hash
  is_unit same = record {
    can_be_kept = read.can_be_kept;
    bytes_are = sym (take-append-drop len bytes) ∙ ap (λ r. r ++ drop len bytes) read.is ∙ ap (λ h. record_of event ++ h) (same ∙ own_hash);
    hash_is = own_hash;
  }

  -- the hash is another
  pub no_unit : (drop len bytes ≡ hash → ⊥) → ReadsOnly bytes (Ok (event, len)) → AreNoUnit before bytes
  no_unit other only = λ e can is.
      let one = only e (chain before (record_of e)) can is in
      other (ap (λ b. drop len b) is ∙ drop_at (record_of e) (chain before (record_of e)) len (sym one.1) ∙ ap (λ x. chain before (record_of x)) (sym one.0) ∙ sym own_hash)
