-- The messages as contracts see them: their kinds and the values of their fields (this project's
-- own; the order of the fields is that of the table).
use Rattle.std.specs.Prelude.{ℕ, Result, List, [], ◌∷◌}
use Rattle.sv2_types.specs.Fields.{FieldValue, Number, Truth, Bytes, Parts}
use Rattle.sv2_types.specs.Reading.{parts_at}
use Rattle.sv2_messages.specs.declared.kinds.TheConstants as kinds
use Rattle.sv2_messages.specs.declared.error.MsgError.{MsgError}
use Rattle.sv2_messages.specs.Messages.{Message}
use Rattle.sv2_messages.specs.Reading.{GivesMessage, values_of}
use Rattle.sv2_messages.specs.Tables.{template_table}
use Rattle.template_msgs.specs.declared.templates.CoinbaseOutputConstraints.{CoinbaseOutputConstraints}
use Rattle.template_msgs.specs.declared.templates.NewTemplate.{NewTemplate}
use Rattle.template_msgs.specs.declared.templates.SetNewPrevHash.{SetNewPrevHash}
use Rattle.template_msgs.specs.declared.templates.SubmitSolution.{SubmitSolution}
use Rattle.template_msgs.specs.declared.transactions.RequestTransactionData.{RequestTransactionData}
use Rattle.template_msgs.specs.declared.transactions.RequestTransactionDataSuccess.{RequestTransactionDataSuccess}
use Rattle.template_msgs.specs.declared.transactions.RequestTransactionDataError.{RequestTransactionDataError}
use Rattle.template_msgs.specs.declared.message.Template.{Template}
use Rattle.template_msgs.specs.declared.message.Template.TheVariants as messages

-- the fields of each message, in their order
abbrev pub coinbase_output_constraints : CoinbaseOutputConstraints → List FieldValue
coinbase_output_constraints m = Number m.max_additional_size ∷ Number m.max_additional_sigops ∷ []

abbrev pub new_template : NewTemplate → List FieldValue
new_template m =
    Number m.template_id ∷ Truth m.future_template ∷ Number m.version ∷
    Number m.coinbase_tx_version ∷ Bytes m.coinbase_prefix.now ∷
    Number m.coinbase_tx_input_sequence ∷ Number m.coinbase_tx_value_remaining ∷
    Number m.coinbase_tx_outputs_count ∷ Bytes m.coinbase_tx_outputs.now ∷
    Number m.coinbase_tx_locktime ∷ Parts m.merkle_path.items.now ∷ []

abbrev pub template_set_new_prev_hash : SetNewPrevHash → List FieldValue
template_set_new_prev_hash m =
    Number m.template_id ∷ Bytes m.prev_hash ∷ Number m.header_timestamp ∷ Number m.nbits ∷
    Bytes m.target ∷ []

abbrev pub request_transaction_data : RequestTransactionData → List FieldValue
request_transaction_data m = Number m.template_id ∷ []

abbrev pub request_transaction_data_success : RequestTransactionDataSuccess → List FieldValue
request_transaction_data_success m =
    Number m.template_id ∷ Bytes m.excess_data.now ∷
    Parts (parts_at m.transaction_list.count m.transaction_list.spelled.now) ∷ []

abbrev pub request_transaction_data_error : RequestTransactionDataError → List FieldValue
request_transaction_data_error m = Number m.template_id ∷ Bytes m.error_code.now ∷ []

abbrev pub submit_solution : SubmitSolution → List FieldValue
submit_solution m =
    Number m.template_id ∷ Number m.version ∷ Number m.header_timestamp ∷ Number m.header_nonce ∷
    Bytes m.coinbase_tx.now ∷ []

-- a message is its kind and its fields
abbrev pub template_message : Template → Message
template_message (messages.CoinbaseOutputConstraints m) =
    record { kind = kinds.COINBASE_OUTPUT_CONSTRAINTS; fields = coinbase_output_constraints m }
template_message (messages.NewTemplate m) =
    record { kind = kinds.NEW_TEMPLATE; fields = new_template m }
template_message (messages.SetNewPrevHash m) =
    record { kind = kinds.TEMPLATE_SET_NEW_PREV_HASH; fields = template_set_new_prev_hash m }
template_message (messages.RequestTransactionData m) =
    record { kind = kinds.REQUEST_TRANSACTION_DATA; fields = request_transaction_data m }
template_message (messages.RequestTransactionDataSuccess m) =
    record {
      kind = kinds.REQUEST_TRANSACTION_DATA_SUCCESS;
      fields = request_transaction_data_success m;
    }
template_message (messages.RequestTransactionDataError m) =
    record {
      kind = kinds.REQUEST_TRANSACTION_DATA_ERROR;
      fields = request_transaction_data_error m;
    }
template_message (messages.SubmitSolution m) =
    record { kind = kinds.SUBMIT_SOLUTION; fields = submit_solution m }

-- what a function returned is the message of this kind whose fields the payload spells, or the
-- first defect
abbrev pub ReadsTemplate : ℕ → List ℕ → Result Template MsgError → Type 0
ReadsTemplate kind payload result =
    GivesMessage template_message result kind (values_of template_table kind payload)
