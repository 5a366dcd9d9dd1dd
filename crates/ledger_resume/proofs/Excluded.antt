-- The records of a history have no refusal, and what a keeper has of them.
use Rattle.std.proofs.Common.{◌≡◌, ◌⊎◌, inl, inr, ⊎_elim, ℕ, None, Some, Option, List, [], ◌∷◌, ◌++◌, refl, ap, subst, sym, ◌∙◌, append_assoc}
use Rattle.pool_base.specs.Lists.{Begins}
use Rattle.pool_history.specs.declared.events.Event.{Event}
use Rattle.pool_history.specs.declared.events.Event.TheVariants as event
use Rattle.pool_history.specs.Ledger.{chained, kept_records, ledger_text, magic_2}
use Rattle.history_laws.specs.Legality.{Starts}
use Rattle.ledger_audit.specs.declared.verdict.Verdict.{Verdict}
use Rattle.ledger_audit.specs.declared.verdict.Verdict.TheVariants as verdict
use Rattle.ledger_audit.specs.Judging.{in_a_row}
use Rattle.ledger_audit.specs.OneVerdict.{kept-legal, one-verdict}
use Rattle.ledger_audit.specs.Verdicts.{IsVerdictOf}
use Rattle.ledger_records.proofs.Records.{joined, ledgers, text_pieces}
use Rattle.pool_io.specs.Crashes.{IsSettledWith}
use Rattle.pool_io.specs.Seen.{KeeperSeen}
use Rattle.sha2.specs.Sha256.{sha256}
use Rattle.share_ledger.proofs.Recovering.{settled-recovers}
use Rattle.share_ledger.specs.Recovery.{CanRecover, IsRecoverable, pieces_of}
use Rattle.share_ledger.specs.Books.{KeepsLedger}
use Rattle.ledger_resume.specs.declared.error.ResumeError.{ResumeError}
use Rattle.ledger_resume.specs.declared.error.ResumeError.TheVariants as error
use Rattle.ledger_resume.specs.Histories.{IsHistoryOf}
use Rattle.ledger_resume.specs.Refusals.{AreCutOtherwise, HaveMagic, HistoriesAreNotRefused, IsVerdictInFormat2, TellsJust}

module _ (records : List (List ℕ)) (history : List Event) (is : IsHistoryOf records history) where
  row_is : in_a_row records ≡ ledger_text history
  row_is = ap in_a_row is.pieces

  has_magic : HaveMagic (in_a_row records)
  has_magic = (joined (chained (sha256 magic_2) history), sym (text_pieces (chained (sha256 magic_2) history)) ∙ sym row_is)

  no_verdict : (v : Verdict) → (v ≡ verdict.Legal → ⊥) → IsVerdictInFormat2 (in_a_row records) v → ⊥
  no_verdict v other fits =
      ⊎_elim
      (λ one. other (one-verdict (in_a_row records) v verdict.Legal one.1
      (subst (λ b. IsVerdictOf b verdict.Legal) (sym row_is) (kept-legal history is.kept))))
      (λ none. none.0 has_magic) fits

  -- the pieces of a history that begins are all its records
  pieces_are : pieces_of history ≡ records
  pieces_are = ap pieces_of is.begun.first ∙ ap kept_records (sym is.begun.first) ∙ sym is.pieces

  not_cut : (place : ℕ) → AreCutOtherwise records place → ⊥
  not_cut place cut =
      let same : cut.history ≡ history =
      ledgers cut.history history cut.ledger.kept.has_ledger is.kept.has_ledger (sym cut.ledger.text ∙ row_is) in
      cut.other (cut.more, append_assoc cut.front (cut.one ∷ []) cut.more ∙ sym cut.parts ∙ sym pieces_are ∙ ap pieces_of (sym same))

pub not_refused : HistoriesAreNotRefused
not_refused records history (error.NotALedger place) is fits =
    absurd (⊎_elim (no_verdict records history is (verdict.NotALedger place) other) (not_cut records history is place) fits) where
      other : verdict.NotALedger place ≡ verdict.Legal → ⊥
      other same = cc
not_refused records history (error.Broken number) is fits = absurd (no_verdict records history is (verdict.BrokenChain number) other fits) where
  other : verdict.BrokenChain number ≡ verdict.Legal → ⊥
  other same = cc
not_refused records history (error.Illegal number) is fits = absurd (no_verdict records history is (verdict.Illegal number fits.0) other fits.1) where
  other : verdict.Illegal number fits.0 ≡ verdict.Legal → ⊥
  other same = cc
not_refused records history error.Memory is fits = refl

-- a keeper that tells just these records has the history's ledger
pub keeps_ledger : (told : Option (List (List ℕ))) (records : List (List ℕ)) (history : List Event) → IsHistoryOf records history → TellsJust told records → KeepsLedger told history
keeps_ledger None records history is just = tt
keeps_ledger (Some kept) records history is just = just ∙ is.pieces

-- and a crash leaves fronts of it
pub can_recover : (keeper : KeeperSeen) (may : ℕ → Option (List (List ℕ)) → Type 0) (records : List (List ℕ)) (history : List Event) → IsHistoryOf records history
    → TellsJust keeper.records records → IsSettledWith keeper.stored may records → IsRecoverable keeper may history
can_recover keeper may records history is just settled = by_told keeper.records refl just
  where
    untold : (stored : Option (List ℕ)) → CanRecover None stored may history
    untold None = tt
    untold (Some counts) = tt

    by_told : (told : Option (List (List ℕ))) → keeper.records ≡ told → TellsJust told records → IsRecoverable keeper may history
    by_told None none just = subst (λ t. CanRecover t keeper.stored may history) (sym none) (untold keeper.stored)
    by_told (Some kept) some just =
        settled-recovers history keeper may
        (some ∙ ap (λ rs. Some rs) (just ∙ sym (pieces_are records history is)))
        (subst (IsSettledWith keeper.stored may) (sym (pieces_are records history is)) settled)
