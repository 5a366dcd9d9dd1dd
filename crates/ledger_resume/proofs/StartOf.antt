-- Whether the history of records begins with a Start.
use Rattle.std.proofs.Common.{◌≡◌, ◌↔◌, ℕ, Bool, IsTrue, List, [], ◌∷◌, Result, Ok, Err, IfOk, ap, subst, sym, ◌∙◌}
use Rattle.pool_base.specs.Lists.{Begins}
use Rattle.pool_history.specs.declared.events.Event.{Event}
use Rattle.pool_history.specs.declared.events.Event.TheVariants as event
use Rattle.pool_history.specs.declared.settings.Rules.{Rules}
use Rattle.pool_history.specs.Ledger.{kept_records}
use Rattle.ledger_records.specs.WellFormed.{CanBeKept}
use Rattle.ledger_records.specs.Pieces.{first_piece}
use Rattle.ledger_resume.specs.Histories.{IsHistoryOf}
use Rattle.ledger_resume.proofs.Pieces.{begins_with, one_first_of}

empty : {e : Event} {l : List Event} → ◌≡◌ {A = List Event} [] (e ∷ l) → ⊥
empty same = cc

-- no history that begins has no record
pub some_record : (past : List Event) → IsHistoryOf [] past → ⊥
some_record [] is = empty is.begun.first
some_record (e ∷ more) is = none is.pieces
  where
    none : ◌≡◌ {A = List (List ℕ)} [] (kept_records (e ∷ more)) → ⊥
    none same = cc

-- the first record tells
pub first_tells : (rules : Rules) (first : List ℕ) (later : List (List ℕ)) (same : Bool) (past : List Event) → CanBeKept (event.Start rules)
    → IsTrue same ↔ (first ≡ first_piece (event.Start rules)) → IsHistoryOf (first ∷ later) past
    → IsTrue same ↔ Begins (event.Start rules ∷ []) past
first_tells rules first later same past kept tells is =
    let begins = begins_with first later past is in (
      λ yes.
          let one : begins.event ≡ event.Start rules = one_first_of first begins.event (event.Start rules) begins.can_be_kept kept begins.piece (tells.0 yes) in
          (begins.more, ap (λ (e : Event). e ∷ begins.more) (sym one) ∙ begins.parts),
      λ starts.
          let one : begins.event ≡ event.Start rules = heads begins.event (event.Start rules) begins.more starts.0 (begins.parts ∙ sym starts.1) in
          tells.1 (begins.piece ∙ ap first_piece one),
    )
  where
    heads : (e f : Event) (a b : List Event) → e ∷ a ≡ f ∷ b → e ≡ f
    heads e f a b joined = cc

-- so do the records
pub records_tell : {E : Type 0} (rules : Rules) (first : List ℕ) (later records : List (List ℕ)) (bytes : List ℕ) (result : Result Bool E) → records ≡ first ∷ later → bytes ≡ first
    → IfOk result (λ same. CanBeKept (event.Start rules)) → IfOk result (λ same. IsTrue same ↔ (bytes ≡ first_piece (event.Start rules)))
    → IfOk result (λ same. (past : List Event) → IsHistoryOf records past → IsTrue same ↔ Begins (event.Start rules ∷ []) past)
records_tell rules first later records bytes (Err error) all is kept tells = tt
records_tell rules first later records bytes (Ok same) all is kept tells = λ past history.
    first_tells rules first later same past kept (subst (λ (b : List ℕ). IsTrue same ↔ (b ≡ first_piece (event.Start rules))) is tells)
    (subst (λ (rs : List (List ℕ)). IsHistoryOf rs past) all history)
