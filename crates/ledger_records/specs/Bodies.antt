-- What is read of a record's body, field by field (this project's own).
use Rattle.std.specs.Prelude.{◌≡◌, ℕ, false, Result, Ok, Err, List, [], length}
use Rattle.std.specs.List.{flat_map, AllByRecursion}
use Rattle.std.specs.Str.{IsUtf8}
use Rattle.sv2_types.specs.Fields.{FieldValue}
use Rattle.sv2_types.specs.Spelling.{spelled_str255}
use Rattle.sv2_messages.specs.declared.error.MsgError.{MsgError}
use Rattle.sv2_messages.specs.Reading.{values_of}
use Rattle.pool_history.specs.declared.events.Event.{Event}
use Rattle.pool_history.specs.declared.events.Event.TheVariants as event
use Rattle.pool_history.specs.declared.settings.Rules.{Rules}
use Rattle.pool_history.specs.Ledger.{record_body, record_kind}
use Rattle.ledger_records.specs.WellFormed.{CanBeKept, IsText}
use Rattle.ledger_records.specs.declared.error.RecordError.{RecordError}
use Rattle.ledger_records.specs.declared.error.RecordError.TheVariants as errors
use Rattle.ledger_records.specs.Fields.{record_table, record_values, rules_row}

-- a path is said only where it is fixed
abbrev pub SaysPath : Event → Type 0
SaysPath (event.Grant session account fixed path) = fixed ≡ false → path ≡ []
SaysPath _ = Unit {0}

-- no event of this kind has these values
abbrev pub IsNoEvent : ℕ → Result (List FieldValue) MsgError → Type 0
IsNoEvent kind (Err error) = Unit {0}
IsNoEvent kind (Ok values) =
    (one : Event) → CanBeKept one → record_kind one ≡ kind → record_values one ≡ values → ⊥

-- what a function returned is the event of this kind with these values, or there is none
abbrev pub GivesEvent : ℕ → Result (List FieldValue) MsgError → Result Event RecordError → Type 0
GivesEvent kind values (Ok one) =
    (record_kind one ≡ kind) × (values ≡ Ok (record_values one)) × SaysPath one
GivesEvent kind values (Err errors.NotWhole) = ⊥
GivesEvent kind values (Err errors.NoRecord) = IsNoEvent kind values
GivesEvent kind values (Err errors.Memory) = Unit {0}

-- the body of a record of this kind is read
abbrev pub ReadsBody : ℕ → List ℕ → Result Event RecordError → Type 0
ReadsBody kind body result = GivesEvent kind (values_of record_table kind body) result

-- the body is this event's, by its kind
pub record IsBodyOf (kind : ℕ) (body : List ℕ) (one : Event) : Type 0 where
  pub can_be_kept : CanBeKept one
  pub same_kind : record_kind one ≡ kind
  pub same_body : record_body one ≡ body

-- what a function returned is the event whose body it is, or there is none
abbrev pub DecidesBody : ℕ → List ℕ → Result Event RecordError → Type 0
DecidesBody kind body (Ok one) = IsBodyOf kind body one
DecidesBody kind body (Err errors.NotWhole) = ⊥
DecidesBody kind body (Err errors.NoRecord) = (one : Event) → IsBodyOf kind body one → ⊥
DecidesBody kind body (Err errors.Memory) = Unit {0}

-- what a function returned are so many accounts and nothing else, or there are none such
abbrev pub ReadsUsers : ℕ → List ℕ → Result (List (List ℕ)) RecordError → Type 0
ReadsUsers count accounts (Ok users) =
    (length users ≡ count) × (accounts ≡ flat_map spelled_str255 users)
ReadsUsers count accounts (Err errors.NotWhole) = ⊥
ReadsUsers count accounts (Err errors.NoRecord) =
    (users : List (List ℕ)) → length users ≡ count → AllByRecursion IsText users
    → AllByRecursion IsUtf8 users → accounts ≡ flat_map spelled_str255 users → ⊥
ReadsUsers count accounts (Err errors.Memory) = Unit {0}

-- no rules have these values and these accounts
abbrev pub AreNoRules : Result (List FieldValue) MsgError → List ℕ → Type 0
AreNoRules (Err error) accounts = Unit {0}
AreNoRules (Ok values) accounts =
    (rules : Rules) → CanBeKept (event.Start rules) → rules_row rules ≡ values
    → accounts ≡ flat_map spelled_str255 rules.users → ⊥

-- what a function returned are the rules with these values and these accounts, or there are none
abbrev pub GivesRules
    : Result (List FieldValue) MsgError → List ℕ → Result Rules RecordError → Type 0
GivesRules values accounts (Ok rules) =
    (values ≡ Ok (rules_row rules)) × (accounts ≡ flat_map spelled_str255 rules.users)
GivesRules values accounts (Err errors.NotWhole) = ⊥
GivesRules values accounts (Err errors.NoRecord) = AreNoRules values accounts
GivesRules values accounts (Err errors.Memory) = Unit {0}

-- the fields and the accounts of a Start are read
abbrev pub ReadsRules : List ℕ → List ℕ → Result Rules RecordError → Type 0
ReadsRules head accounts result = GivesRules (values_of record_table 0 head) accounts result
