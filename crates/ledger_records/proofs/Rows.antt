-- The bodies of records by the fields of their rows, kind by kind.
use Rattle.std.proofs.Common.{◌≡◌, ℕ, ◌<◌, ◌^◌, Bool, true, false, Option, None, Some, List, [], ◌∷◌, ◌++◌, flat_map, refl, ◌∙◌, arith}
use Rattle.std.specs.List.{list_all}
use Rattle.sv2_types.specs.Fields.{FieldType, U8, U16, U32, U64, UINT256, STR0_255, B0_255, B0_32, B0_64K, SEQ0_255_U256, BOOL, Number, Bytes, Parts, Truth}
use Rattle.sv2_types.specs.Spelling.{spelled_boolean, spelled_str255, spelled_u32}
use Rattle.sv2_messages.specs.Messages.{types_of}
use Rattle.pool_history.specs.declared.events.Event.{Event}
use Rattle.pool_history.specs.declared.events.Event.TheVariants as event
use Rattle.pool_history.specs.declared.settings.Rules.{Rules}
use Rattle.pool_history.specs.declared.templates.TemplateData.{TemplateData}
use Rattle.pool_history.specs.Ledger.{EventFits, kind_number, record_body, record_kind, role_number}
use Rattle.ledger_records.specs.WellFormed.{CanBeKept}
use Rattle.ledger_records.proofs.Bodies as bodies
use Rattle.ledger_records.proofs.FieldByField.{AreOf, written, written_after-is}
use Rattle.ledger_records.proofs.Kept as kept
use Rattle.ledger_records.proofs.Kept.{kind-small, role-small, rule-small, window-small}
use Rattle.ledger_records.specs.Bodies.{SaysPath}
use Rattle.ledger_records.specs.Fields.{record_table, record_values, rule_byte, truth_byte, window_field}
use Rattle.ledger_records.proofs.Spelled.{has_one_form}

-- the types of an event's fields, of a Start those before its accounts
abbrev pub types : Event → List FieldType
types (event.Start rules) = B0_255 ∷ U8 ∷ U16 ∷ U8 ∷ U64 ∷ U32 ∷ U32 ∷ U8 ∷ U16 ∷ []
types (event.Enter worker role flags) = U32 ∷ U8 ∷ U32 ∷ []
types (event.Template session template) = U32 ∷ U64 ∷ U8 ∷ U32 ∷ U32 ∷ B0_255 ∷ U32 ∷ U64 ∷ U32 ∷ B0_64K ∷ U32 ∷ SEQ0_255_U256 ∷ []
types (event.Tip session tip) = U32 ∷ U64 ∷ UINT256 ∷ U32 ∷ U32 ∷ UINT256 ∷ []
types (event.Open session kind account class lead) = U32 ∷ U8 ∷ STR0_255 ∷ U8 ∷ B0_32 ∷ []
types (event.Name session channel account) = U32 ∷ U32 ∷ STR0_255 ∷ []
types (event.Class session channel class) = U32 ∷ U32 ∷ U8 ∷ []
types (event.Close session channel) = U32 ∷ U32 ∷ []
types (event.Leave session) = U32 ∷ []
types (event.Credit session channel job nonce ntime version extranonce) = U32 ∷ U32 ∷ U32 ∷ U32 ∷ U32 ∷ U32 ∷ B0_32 ∷ []
types (event.Grant session account fixed path) = U32 ∷ STR0_255 ∷ U8 ∷ SEQ0_255_U256 ∷ []
types (event.Custom session custom) = U32 ∷ U32 ∷ B0_255 ∷ U32 ∷ UINT256 ∷ U32 ∷ U32 ∷ U32 ∷ B0_255 ∷ U32 ∷ B0_64K ∷ U32 ∷ SEQ0_255_U256 ∷ []

-- they are those of its kind's row, and each has one spelling for a value
pub row : (one : Event) → types_of record_table (record_kind one) ≡ Some (types one)
row (event.Start rules) = refl
row one = refl

pub one_forms : (one : Event) → list_all has_one_form (types one) ≡ true
one_forms (event.Start rules) = refl
one_forms one = refl

-- what stands behind an event's fields
abbrev pub behind : Event → List ℕ
behind (event.Start rules) = flat_map spelled_str255 rules.users
behind one = []

-- a truth is a byte
truth-small : (truth : Bool) → truth_byte truth < 2 ^ 8
truth-small true = omega arith
truth-small false = omega arith

truth-spelled : (truth : Bool) → spelled_boolean truth ≡ truth_byte truth ∷ []
truth-spelled true = refl
truth-spelled false = refl

-- an event's body is its fields, and behind those of a Start its accounts
rule-same : (window : Option ℕ) → kept.rule_number window ≡ rule_byte window
rule-same None = refl
rule-same (Some window) = refl

window-same : (window : Option ℕ) → kept.window_number window ≡ window_field window
window-same None = refl
window-same (Some window) = refl

rules_same : (rules : Rules)
    → written bodies.rules_types (bodies.rules_values rules) (flat_map spelled_str255 rules.users)
    ≡ written (types (event.Start rules)) (record_values (event.Start rules)) (flat_map spelled_str255 rules.users)
rules_same rules = rw (rule-same rules.window, window-same rules.window, truth-spelled rules.version_rolling) refl

pub rules_written : (rules : Rules)
    → record_body (event.Start rules) ≡ written (types (event.Start rules)) (record_values (event.Start rules)) (flat_map spelled_str255 rules.users)
rules_written rules = bodies.rules_written rules ∙ rules_same rules

template_same : (session : ℕ) (template : TemplateData)
    → written bodies.template_types (bodies.template_values session template) []
    ≡ written (types (event.Template session template)) (record_values (event.Template session template)) []
template_same session template = rw (truth-spelled template.future_template) refl

template_written : (session : ℕ) (template : TemplateData)
    → record_body (event.Template session template) ++ [] ≡ written (types (event.Template session template)) (record_values (event.Template session template)) []
template_written session template = bodies.template_written session template ∙ template_same session template

grant_same : (session : ℕ) (account : List ℕ) (fixed : Bool) (path : List (List ℕ))
    → written (U32 ∷ STR0_255 ∷ BOOL ∷ SEQ0_255_U256 ∷ []) (Number session ∷ Bytes account ∷ Truth fixed ∷ Parts path ∷ []) []
    ≡ written (types (event.Grant session account fixed path)) (record_values (event.Grant session account fixed path)) []
grant_same session account fixed path = rw (truth-spelled fixed) refl

pub body_written : (one : Event) → (record_kind one ≡ 0 → ⊥) → record_body one ++ [] ≡ written (types one) (record_values one) []
body_written (event.Start rules) other = absurd (other refl)
body_written (event.Enter worker role flags) other =
    written_after-is (spelled_u32 worker) (U8 ∷ U32 ∷ []) (Number (role_number role) ∷ Number flags ∷ []) []
body_written (event.Template session template) other = template_written session template
body_written (event.Tip session tip) other = bodies.tip_written session tip
body_written (event.Open session kind account class lead) other =
    written_after-is (spelled_u32 session) (U8 ∷ STR0_255 ∷ U8 ∷ B0_32 ∷ []) (Number (kind_number kind) ∷ Bytes account ∷ Number class ∷ Bytes lead ∷ []) []
body_written (event.Name session channel account) other = written_after-is (spelled_u32 session) (U32 ∷ STR0_255 ∷ []) (Number channel ∷ Bytes account ∷ []) []
body_written (event.Class session channel class) other = written_after-is (spelled_u32 session) (U32 ∷ U8 ∷ []) (Number channel ∷ Number class ∷ []) []
body_written (event.Close session channel) other = written_after-is (spelled_u32 session) (U32 ∷ []) (Number channel ∷ []) []
body_written (event.Leave session) other = refl
body_written (event.Credit session channel job nonce ntime version extranonce) other =
    written_after-is (spelled_u32 session) (U32 ∷ U32 ∷ U32 ∷ U32 ∷ U32 ∷ B0_32 ∷ [])
    (Number channel ∷ Number job ∷ Number nonce ∷ Number ntime ∷ Number version ∷ Bytes extranonce ∷ []) []
body_written (event.Grant session account fixed path) other =
    written_after-is (spelled_u32 session) (STR0_255 ∷ BOOL ∷ SEQ0_255_U256 ∷ []) (Bytes account ∷ Truth fixed ∷ Parts path ∷ []) []
    ∙ grant_same session account fixed path
body_written (event.Custom session custom) other = bodies.custom_written session custom

-- its fields are of their types
pub body_are_of : (one : Event) → CanBeKept one → AreOf (types one) (record_values one)
body_are_of (event.Start rules) can =
    let is = can.well_formed in let fits = can.has_record.fits in (
      fits.script,
      (
        is.least_class,
        (
          is.fee,
          (
            rw (rule-same rules.window) at (rule-small rules.window),
            (
              rw (window-same rules.window) at (window-small rules.window is.window),
              (is.ntime_window, (is.credit_limit, (truth-small rules.version_rolling, (fits.users, tt)))),
            ),
          ),
        ),
      ),
    )
body_are_of (event.Enter worker role flags) can = (can.well_formed.worker_fits, (role-small role, (can.well_formed.flags_fit, tt)))
body_are_of (event.Template session template) can =
    let is = can.well_formed.template_fits in let fits = can.has_record.fits in (
      can.well_formed.session_fits,
      (
        is.template_id,
        (
          truth-small template.future_template,
          (
            is.version,
            (
              is.coinbase_tx_version,
              (
                fits.prefix,
                (
                  is.coinbase_tx_input_sequence,
                  (
                    is.coinbase_tx_value_remaining,
                    (
                      is.coinbase_tx_outputs_count,
                      (
                        fits.outputs,
                        (
                          is.coinbase_tx_locktime,
                          ((fits.path, is.merkle_path), tt),
                        ),
                      ),
                    ),
                  ),
                ),
              ),
            ),
          ),
        ),
      ),
    )
body_are_of (event.Tip session tip) can = bodies.tip_are_of session tip can.well_formed
body_are_of (event.Open session kind account class lead) can =
    (can.well_formed.session_fits, (kind-small kind, ((can.well_formed.account_fits, can.has_record.texts), (can.well_formed.class_fits, (can.has_record.fits, tt)))))
body_are_of (event.Name session channel account) can =
    (can.well_formed.session_fits, (can.well_formed.channel_fits, ((can.well_formed.account_fits, can.has_record.texts), tt)))
body_are_of (event.Class session channel class) can = (can.well_formed.session_fits, (can.well_formed.channel_fits, (can.well_formed.class_fits, tt)))
body_are_of (event.Close session channel) can = (can.well_formed.session_fits, (can.well_formed.channel_fits, tt))
body_are_of (event.Leave session) can = (can.well_formed, tt)
body_are_of (event.Credit session channel job nonce ntime version extranonce) can =
    let is = can.well_formed in
    (is.session_fits, (is.channel_fits, (is.job_fits, (is.nonce_fits, (is.ntime_fits, (is.version_fits, (can.has_record.fits, tt)))))))
body_are_of (event.Grant session account fixed path) can =
    (can.well_formed.session_fits, ((can.well_formed.account_fits, can.has_record.texts), (truth-small fixed, ((can.has_record.fits.short, can.well_formed.path_fits), tt))))
body_are_of (event.Custom session custom) can = bodies.custom_are_of session custom can.well_formed can.has_record.fits

-- and where they are, its lists fit
pub body_fits : (one : Event) → SaysPath one → AreOf (types one) (record_values one) → EventFits one
body_fits (event.Start rules) says are = record { script = are.0; users = are.1.1.1.1.1.1.1.1.0 }
body_fits (event.Enter worker role flags) says are = tt
body_fits (event.Template session template) says are =
    record { prefix = are.1.1.1.1.1.0; outputs = are.1.1.1.1.1.1.1.1.1.0; path = are.1.1.1.1.1.1.1.1.1.1.1.0.0 }
body_fits (event.Tip session tip) says are = tt
body_fits (event.Open session kind account class lead) says are = are.1.1.1.1.0
body_fits (event.Name session channel account) says are = tt
body_fits (event.Class session channel class) says are = tt
body_fits (event.Close session channel) says are = tt
body_fits (event.Leave session) says are = tt
body_fits (event.Credit session channel job nonce ntime version extranonce) says are = are.1.1.1.1.1.1.0
body_fits (event.Grant session account fixed path) says are = record { none = says; short = are.1.1.1.0.0 }
body_fits (event.Custom session custom) says are =
    record { token = are.1.1.0; prefix = are.1.1.1.1.1.1.1.1.0; outputs = are.1.1.1.1.1.1.1.1.1.1.0; path = are.1.1.1.1.1.1.1.1.1.1.1.1.0.0 }
