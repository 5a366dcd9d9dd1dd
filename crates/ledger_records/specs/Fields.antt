-- The fields of each kind of record (this project's own; docs/POOL.md has the table).
use Rattle.std.specs.Prelude.{ℕ, Bool, true, false, Option, None, Some, List, [], ◌∷◌, length, codes}
use Rattle.sv2_types.specs.Fields.{FieldValue, U8, U16, U32, U64, UINT256, STR0_255, B0_255, B0_32, B0_64K, SEQ0_255_U256, Number, Bytes, Parts}
use Rattle.sv2_messages.specs.Messages.{Row, field}
use Rattle.pool_history.specs.declared.events.Event.{Event}
use Rattle.pool_history.specs.declared.events.Event.TheVariants as event
use Rattle.pool_history.specs.declared.settings.Rules.{Rules}
use Rattle.pool_history.specs.declared.templates.CustomData.{CustomData}
use Rattle.pool_history.specs.declared.templates.TemplateData.{TemplateData}
use Rattle.pool_history.specs.declared.templates.TipData.{TipData}
use Rattle.pool_history.specs.Ledger.{kind_number, role_number}

-- each kind of record, and the fields of its body in their order. A truth, a role, a kind and a
-- rule are a byte each. Of a Start the accounts stand behind these fields
abbrev pub record_table : List Row
record_table =
    record {
      kind = 0;
      name = codes "Start";
      fields =
          field "pool_script" B0_255 ∷ field "least_class" U8 ∷ field "fee" U16 ∷
          field "rule" U8 ∷ field "window" U64 ∷ field "ntime_window" U32 ∷
          field "credit_limit" U32 ∷ field "version_rolling" U8 ∷ field "users" U16 ∷ [];
    } ∷
    record {
      kind = 1;
      name = codes "Enter";
      fields = field "worker" U32 ∷ field "role" U8 ∷ field "flags" U32 ∷ [];
    } ∷
    record {
      kind = 2;
      name = codes "Template";
      fields =
          field "session" U32 ∷ field "template_id" U64 ∷ field "future_template" U8 ∷
          field "version" U32 ∷ field "coinbase_tx_version" U32 ∷
          field "coinbase_prefix" B0_255 ∷ field "coinbase_tx_input_sequence" U32 ∷
          field "coinbase_tx_value_remaining" U64 ∷ field "coinbase_tx_outputs_count" U32 ∷
          field "coinbase_tx_outputs" B0_64K ∷ field "coinbase_tx_locktime" U32 ∷
          field "merkle_path" SEQ0_255_U256 ∷ [];
    } ∷
    record {
      kind = 3;
      name = codes "Tip";
      fields =
          field "session" U32 ∷ field "template_id" U64 ∷ field "prev_hash" UINT256 ∷
          field "header_timestamp" U32 ∷ field "nbits" U32 ∷ field "target" UINT256 ∷ [];
    } ∷
    record {
      kind = 4;
      name = codes "Open";
      fields =
          field "session" U32 ∷ field "kind" U8 ∷ field "account" STR0_255 ∷
          field "class" U8 ∷ field "lead" B0_32 ∷ [];
    } ∷
    record {
      kind = 5;
      name = codes "Name";
      fields = field "session" U32 ∷ field "channel" U32 ∷ field "account" STR0_255 ∷ [];
    } ∷
    record {
      kind = 6;
      name = codes "Class";
      fields = field "session" U32 ∷ field "channel" U32 ∷ field "class" U8 ∷ [];
    } ∷
    record {
      kind = 7;
      name = codes "Close";
      fields = field "session" U32 ∷ field "channel" U32 ∷ [];
    } ∷
    record {
      kind = 8;
      name = codes "Leave";
      fields = field "session" U32 ∷ [];
    } ∷
    record {
      kind = 9;
      name = codes "Credit";
      fields =
          field "session" U32 ∷ field "channel" U32 ∷ field "job" U32 ∷ field "nonce" U32 ∷
          field "ntime" U32 ∷ field "version" U32 ∷ field "extranonce" B0_32 ∷ [];
    } ∷
    record {
      kind = 10;
      name = codes "Grant";
      fields =
          field "session" U32 ∷ field "account" STR0_255 ∷ field "fixed" U8 ∷
          field "path" SEQ0_255_U256 ∷ [];
    } ∷
    record {
      kind = 11;
      name = codes "Custom";
      fields =
          field "session" U32 ∷ field "channel_id" U32 ∷ field "token" B0_255 ∷
          field "version" U32 ∷ field "prev_hash" UINT256 ∷ field "min_ntime" U32 ∷
          field "nbits" U32 ∷ field "coinbase_tx_version" U32 ∷
          field "coinbase_prefix" B0_255 ∷ field "coinbase_tx_input_sequence" U32 ∷
          field "coinbase_tx_outputs" B0_64K ∷ field "coinbase_tx_locktime" U32 ∷
          field "merkle_path" SEQ0_255_U256 ∷ [];
    } ∷ []

-- the byte of a truth
abbrev pub truth_byte : Bool → ℕ
truth_byte false = 0
truth_byte true = 1

-- the byte of a rule: 0 has no window, 1 has one
abbrev pub rule_byte : Option ℕ → ℕ
rule_byte None = 0
rule_byte (Some window) = 1

-- what stands for a window: 0 where there is none
abbrev pub window_field : Option ℕ → ℕ
window_field None = 0
window_field (Some window) = window

-- the values of the rules, but the accounts
abbrev pub rules_row : Rules → List FieldValue
rules_row rules =
    Bytes rules.pool_script ∷ Number rules.least_class ∷ Number rules.fee ∷
    Number (rule_byte rules.window) ∷ Number (window_field rules.window) ∷
    Number rules.ntime_window ∷ Number rules.credit_limit ∷
    Number (truth_byte rules.version_rolling) ∷ Number (length rules.users) ∷ []

-- the values of a template of a session
abbrev pub template_row : ℕ → TemplateData → List FieldValue
template_row session template =
    Number session ∷ Number template.template_id ∷
    Number (truth_byte template.future_template) ∷ Number template.version ∷
    Number template.coinbase_tx_version ∷ Bytes template.coinbase_prefix ∷
    Number template.coinbase_tx_input_sequence ∷ Number template.coinbase_tx_value_remaining ∷
    Number template.coinbase_tx_outputs_count ∷ Bytes template.coinbase_tx_outputs ∷
    Number template.coinbase_tx_locktime ∷ Parts template.merkle_path ∷ []

-- the values of a tip of a session
abbrev pub tip_row : ℕ → TipData → List FieldValue
tip_row session tip =
    Number session ∷ Number tip.template_id ∷ Bytes tip.prev_hash ∷
    Number tip.header_timestamp ∷ Number tip.nbits ∷ Bytes tip.target ∷ []

-- the values of a miner's own job of a session
abbrev pub custom_row : ℕ → CustomData → List FieldValue
custom_row session custom =
    Number session ∷ Number custom.channel_id ∷ Bytes custom.token ∷ Number custom.version ∷
    Bytes custom.prev_hash ∷ Number custom.min_ntime ∷ Number custom.nbits ∷
    Number custom.coinbase_tx_version ∷ Bytes custom.coinbase_prefix ∷
    Number custom.coinbase_tx_input_sequence ∷ Bytes custom.coinbase_tx_outputs ∷
    Number custom.coinbase_tx_locktime ∷ Parts custom.merkle_path ∷ []

-- the values of an event's fields, in the order of its row
abbrev pub record_values : Event → List FieldValue
record_values (event.Start rules) = rules_row rules
record_values (event.Enter worker role flags) =
    Number worker ∷ Number (role_number role) ∷ Number flags ∷ []
record_values (event.Template session template) = template_row session template
record_values (event.Tip session tip) = tip_row session tip
record_values (event.Open session kind account class lead) =
    Number session ∷ Number (kind_number kind) ∷ Bytes account ∷ Number class ∷ Bytes lead ∷ []
record_values (event.Name session channel account) =
    Number session ∷ Number channel ∷ Bytes account ∷ []
record_values (event.Class session channel class) =
    Number session ∷ Number channel ∷ Number class ∷ []
record_values (event.Close session channel) = Number session ∷ Number channel ∷ []
record_values (event.Leave session) = Number session ∷ []
record_values (event.Credit session channel job nonce ntime version extranonce) =
    Number session ∷ Number channel ∷ Number job ∷ Number nonce ∷ Number ntime ∷
    Number version ∷ Bytes extranonce ∷ []
record_values (event.Grant session account fixed path) =
    Number session ∷ Bytes account ∷ Number (truth_byte fixed) ∷ Parts path ∷ []
record_values (event.Custom session custom) = custom_row session custom
