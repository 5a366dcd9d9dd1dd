-- The fields of owned copies, in the order of the messages that they are copied from (this project's
-- own).
use Rattle.std.specs.Prelude.{ℕ, List, [], ◌∷◌}
use Rattle.pool_history.specs.declared.templates.CustomData.{CustomData}
use Rattle.pool_history.specs.declared.templates.TemplateData.{TemplateData}
use Rattle.pool_history.specs.declared.templates.TipData.{TipData}
use Rattle.sv2_types.specs.Fields.{FieldValue, Number, Truth, Bytes, Parts}

-- those of a template, and of a tip
abbrev pub template_fields : TemplateData → List FieldValue
template_fields template =
    Number template.template_id ∷ Truth template.future_template ∷ Number template.version ∷
    Number template.coinbase_tx_version ∷ Bytes template.coinbase_prefix ∷
    Number template.coinbase_tx_input_sequence ∷ Number template.coinbase_tx_value_remaining ∷
    Number template.coinbase_tx_outputs_count ∷ Bytes template.coinbase_tx_outputs ∷
    Number template.coinbase_tx_locktime ∷ Parts template.merkle_path ∷ []

abbrev pub tip_fields : TipData → List FieldValue
tip_fields tip =
    Number tip.template_id ∷ Bytes tip.prev_hash ∷ Number tip.header_timestamp ∷ Number tip.nbits ∷
    Bytes tip.target ∷ []

-- those of a miner's own job, with the number of its request
abbrev pub custom_fields : ℕ → CustomData → List FieldValue
custom_fields request_id custom =
    Number custom.channel_id ∷ Number request_id ∷ Bytes custom.token ∷ Number custom.version ∷
    Bytes custom.prev_hash ∷ Number custom.min_ntime ∷ Number custom.nbits ∷
    Number custom.coinbase_tx_version ∷ Bytes custom.coinbase_prefix ∷
    Number custom.coinbase_tx_input_sequence ∷ Bytes custom.coinbase_tx_outputs ∷
    Number custom.coinbase_tx_locktime ∷ Parts custom.merkle_path ∷ []
