-- The body of a Start: its fields, and its accounts behind them.
use Rattle.std.proofs.Common.{◌≡◌, ℕ, ◌+◌, ◌≤◌, Result, Ok, Err, List, [], ◌∷◌, ◌++◌, length, take, drop, get_or, flat_map, refl, sym, ap, ap₂, subst, ◌∙◌, append_assoc, length-append, arith}
use Rattle.std.proofs.lemmas.List.{take-append-drop}
use Rattle.std.proofs.Math.Seq.{take-append_seam, drop-append_seam}
use Rattle.sv2_types.specs.Fields.{FieldType, FieldValue, U8, U16, U32, U64, Number, spelling}
use Rattle.sv2_types.specs.Spelling.{spelled_str255}
use Rattle.sv2_types.proofs.Items.{IsBytes}
use Rattle.sv2_messages.specs.declared.error.MsgError.{MsgError}
use Rattle.sv2_messages.specs.Reading.{values_of}
use Rattle.sv2_messages.proofs.Numbers.{IsBytes-take}
use Rattle.pool_history.specs.declared.events.Event.{Event}
use Rattle.pool_history.specs.declared.events.Event.TheVariants as event
use Rattle.pool_history.specs.declared.settings.Rules.{Rules}
use Rattle.pool_history.specs.Ledger.{record_body, record_kind}
use Rattle.ledger_records.proofs.FieldByField.{written}
use Rattle.ledger_records.proofs.Kept.{apart}
use Rattle.ledger_records.specs.declared.error.RecordError.{RecordError}
use Rattle.ledger_records.specs.declared.error.RecordError.TheVariants as errors
use Rattle.ledger_records.specs.Bodies.{AreNoRules, DecidesBody, IsBodyOf, ReadsRules}
use Rattle.ledger_records.specs.Fields.{record_table, record_values, rule_byte, rules_row, truth_byte, window_field}
use Rattle.ledger_records.proofs.Decided.{IsOfTypes}
use Rattle.ledger_records.proofs.Rows.{body_are_of, body_fits, rules_written, types}
use Rattle.ledger_records.proofs.Spelled.{IsWritten, read-written, written-read}

-- fields, and then what stands behind them
written_behind : (types : List FieldType) (values : List FieldValue) (behind : List ℕ) → written types values behind ≡ written types values [] ++ behind
written_behind [] values behind = refl
written_behind (type ∷ types) [] behind = refl
written_behind (type ∷ types) (value ∷ values) behind =
    ap (λ (x : List ℕ). spelling type value ++ x) (written_behind types values behind) ∙ sym (append_assoc (spelling type value) (written types values []) behind)

-- the fields of a Start, and its accounts
abbrev head_of : Rules → List ℕ
head_of rules = written (types (event.Start rules)) (record_values (event.Start rules)) []

abbrev accounts_of : Rules → List ℕ
accounts_of rules = flat_map spelled_str255 rules.users

body_split : (rules : Rules) → record_body (event.Start rules) ≡ head_of rules ++ accounts_of rules
body_split rules = rules_written rules ∙ written_behind (types (event.Start rules)) (record_values (event.Start rules)) (accounts_of rules)

head-length : (rules : Rules) → length (head_of rules) ≡ 24 + length rules.pool_script
head-length rules =
    omega (
      arith,
      length-append rules.pool_script (written (U8 ∷ U16 ∷ U8 ∷ U64 ∷ U32 ∷ U32 ∷ U8 ∷ U16 ∷ [])
          (Number rules.least_class ∷ Number rules.fee ∷ Number (rule_byte rules.window) ∷ Number (window_field rules.window) ∷ Number rules.ntime_window
          ∷ Number rules.credit_limit ∷ Number (truth_byte rules.version_rolling) ∷ Number (length rules.users) ∷ []) []),
    )

-- where a body is a Start's, it is split so
record IsSplit (rules : Rules) (head accounts : List ℕ) : Type 0 where
  head_is : head ≡ head_of rules
  accounts_is : accounts ≡ accounts_of rules

split : (rules : Rules) (body : List ℕ) (n : ℕ) → record_body (event.Start rules) ≡ body → n ≡ 24 + get_or body 0 0 → IsSplit rules (take n body) (drop n body)
split rules body n is at =
    let joined : body ≡ head_of rules ++ accounts_of rules = sym is ∙ body_split rules in
    let first : get_or body 0 0 ≡ length rules.pool_script = ap (λ (x : List ℕ). get_or x 0 0) joined in
    let here : n ≡ length (head_of rules) = omega (arith, at, first, head-length rules) in
    record {
      head_is = ap₂ (λ (k : ℕ) (x : List ℕ). take k x) here joined ∙ take-append_seam (head_of rules) (accounts_of rules);
      accounts_is = ap₂ (λ (k : ℕ) (x : List ℕ). drop k x) here joined ∙ drop-append_seam (head_of rules) (accounts_of rules);
    }

-- the Start that was read is the body's
pub start_is : (body head accounts : List ℕ) (n : ℕ) (rules : Rules) → IsBytes body → length body ≤ 300000 → head ≡ take n body → accounts ≡ drop n body
    → IsOfTypes (event.Start rules) → ReadsRules head accounts (Ok rules) → IsBodyOf 0 body (event.Start rules)
start_is body head accounts n rules fits short front back of reads =
    let bytes : IsBytes head = subst IsBytes (sym front) (IsBytes-take n body fits) in
    let were : IsWritten (types (event.Start rules)) (rules_row rules) head =
    written-read record_table (types (event.Start rules)) 0 (rules_row rules) head refl refl bytes reads.0 in
    let body_is : record_body (event.Start rules) ≡ body =
    body_split rules ∙ ap₂ (λ (x : List ℕ) (y : List ℕ). x ++ y) (sym were.is ∙ front) (sym reads.1 ∙ back) ∙ take-append-drop n body in
    record {
      can_be_kept = record {
        well_formed = of.well_formed;
        has_record = record {
          fits = body_fits (event.Start rules) tt were.are_of;
          texts = of.texts;
          short = subst (λ (x : List ℕ). length x ≤ 300000) (sym body_is) short;
        };
      };
      same_kind = refl;
      same_body = body_is;
    }

no_rules : (values : Result (List FieldValue) MsgError) (accounts : List ℕ) (rules : Rules) → AreNoRules values accounts → values ≡ Ok (rules_row rules)
    → accounts ≡ accounts_of rules → (body : List ℕ) → IsBodyOf 0 body (event.Start rules) → ⊥
no_rules (Err error) accounts rules none is accounts_is body of = absurd cc
no_rules (Ok values) accounts rules none is accounts_is body of =
    none rules of.can_be_kept (let same : values ≡ rules_row rules = cc in sym same) accounts_is

no_start : (body head accounts : List ℕ) (n : ℕ) (one : Event) → n ≡ 24 + get_or body 0 0 → head ≡ take n body → accounts ≡ drop n body
    → AreNoRules (values_of record_table 0 head) accounts → IsBodyOf 0 body one → ⊥
no_start body head accounts n (event.Start rules) at front back none is =
    let parts : IsSplit rules (take n body) (drop n body) = split rules body n is.same_body at in
    let read : values_of record_table 0 head ≡ Ok (rules_row rules) =
    read-written record_table (types (event.Start rules)) 0 (rules_row rules) head refl (body_are_of (event.Start rules) is.can_be_kept) (front ∙ parts.head_is) in
    no_rules (values_of record_table 0 head) accounts rules none read (back ∙ parts.accounts_is) body is
no_start body head accounts n one at front back none is = absurd (apart (record_kind one) 0 refl is.same_kind)

-- where no rules were read, the body is no event's
pub start_is_refused : (body head accounts : List ℕ) (n : ℕ) (error : RecordError) → n ≡ 24 + get_or body 0 0 → head ≡ take n body → accounts ≡ drop n body
    → ReadsRules head accounts (Err error) → DecidesBody 0 body (Err error)
start_is_refused body head accounts n errors.NotWhole at front back reads = reads
start_is_refused body head accounts n errors.NoRecord at front back reads = λ one is. no_start body head accounts n one at front back reads is
start_is_refused body head accounts n errors.Memory at front back reads = tt
