-- A body is an event's exactly where its fields are read as the event's.
use Rattle.std.proofs.Common.{◌≡◌, ℕ, ◌≤◌, Some, Result, Ok, Err, List, length, sym, subst, ◌∙◌, append-nil}
use Rattle.std.specs.Prelude.{IfOk}
use Rattle.sv2_types.specs.Fields.{FieldValue}
use Rattle.sv2_types.proofs.Items.{IsBytes}
use Rattle.sv2_messages.specs.declared.error.MsgError.{MsgError}
use Rattle.sv2_messages.specs.Messages.{types_of}
use Rattle.sv2_messages.specs.Reading.{values_of}
use Rattle.pool_history.specs.declared.events.Event.{Event}
use Rattle.pool_history.specs.Ledger.{TextsFit, record_body, record_kind}
use Rattle.ledger_records.specs.WellFormed.{IsWellFormed}
use Rattle.ledger_records.specs.declared.error.RecordError.{RecordError}
use Rattle.ledger_records.specs.declared.error.RecordError.TheVariants as errors
use Rattle.ledger_records.specs.Bodies.{DecidesBody, GivesEvent, IsBodyOf, IsNoEvent, SaysPath}
use Rattle.ledger_records.specs.Fields.{record_table, record_values}
use Rattle.ledger_records.proofs.Rows.{body_are_of, body_fits, body_written, one_forms, row, types}
use Rattle.ledger_records.proofs.Spelled.{IsWritten, read-written, written-read}

-- what the types of an event's fields say of it
pub record IsOfTypes (one : Event) : Type 0 where
  pub well_formed : IsWellFormed one
  pub texts : TextsFit one

of_kind : (kind : ℕ) (one : Event) → record_kind one ≡ kind → types_of record_table kind ≡ Some (types one)
of_kind kind one same = rw (sym same) (row one)

-- the event that was read is the body's
read_is : (kind : ℕ) (body : List ℕ) (one : Event) → IsBytes body → length body ≤ 300000 → (kind ≡ 0 → ⊥) → IsOfTypes one → record_kind one ≡ kind
    → values_of record_table kind body ≡ Ok (record_values one) → SaysPath one → IsBodyOf kind body one
read_is kind body one fits short other of same is says =
    let were : IsWritten (types one) (record_values one) body =
    written-read record_table (types one) kind (record_values one) body (of_kind kind one same) (one_forms one) fits is in
    let body_is : record_body one ≡ body =
    sym (append-nil (record_body one)) ∙ body_written one (λ start. other (sym same ∙ start)) ∙ sym were.is in
    record {
      can_be_kept = record {
        well_formed = of.well_formed;
        has_record = record {
          fits = body_fits one says were.are_of;
          texts = of.texts;
          short = subst (λ (bytes : List ℕ). length bytes ≤ 300000) (sym body_is) short;
        };
      };
      same_kind = same;
      same_body = body_is;
    }

-- the values of the body's event are read
is_read : (kind : ℕ) (body : List ℕ) (one : Event) → (kind ≡ 0 → ⊥) → IsBodyOf kind body one → values_of record_table kind body ≡ Ok (record_values one)
is_read kind body one other is =
    read-written record_table (types one) kind (record_values one) body (of_kind kind one is.same_kind) (body_are_of one is.can_be_kept)
    (sym is.same_body ∙ sym (append-nil (record_body one)) ∙ body_written one (λ start. other (sym is.same_kind ∙ start)))

no_event : (kind : ℕ) (values : Result (List FieldValue) MsgError) (one : Event) → IsNoEvent kind values → values ≡ Ok (record_values one)
    → (body : List ℕ) → IsBodyOf kind body one → ⊥
no_event kind (Err error) one none is body of = absurd cc
no_event kind (Ok values) one none is body of = none one of.can_be_kept of.same_kind (let same : values ≡ record_values one = cc in sym same)

pub decided : (kind : ℕ) (body : List ℕ) (result : Result Event RecordError) → IsBytes body → length body ≤ 300000 → (kind ≡ 0 → ⊥)
    → IfOk result IsOfTypes → GivesEvent kind (values_of record_table kind body) result → DecidesBody kind body result
decided kind body (Ok one) fits short other of gives = read_is kind body one fits short other of gives.0 gives.1 gives.2
decided kind body (Err errors.NotWhole) fits short other of gives = gives
decided kind body (Err errors.NoRecord) fits short other of gives =
    λ one is. no_event kind (values_of record_table kind body) one gives (is_read kind body one other is) body is
decided kind body (Err errors.Memory) fits short other of gives = tt
