-- The messages as contracts see them: their kinds and the values of their fields (this project's
-- own; the order of the fields is that of the table).
use Rattle.std.specs.Prelude.{ℕ, Result, List, [], ◌∷◌}
use Rattle.sv2_types.specs.Fields.{FieldValue, Number, Bytes, Numbers, Parts}
use Rattle.sv2_types.specs.Reading.{numbers_of, parts_at}
use Rattle.sv2_messages.specs.declared.kinds.TheConstants as kinds
use Rattle.sv2_messages.specs.declared.error.MsgError.{MsgError}
use Rattle.sv2_messages.specs.Messages.{Message}
use Rattle.sv2_messages.specs.Reading.{GivesMessage, values_of}
use Rattle.sv2_messages.specs.Tables.{declare_table}
use Rattle.declare_msgs.specs.declared.tokens.AllocateMiningJobToken.{AllocateMiningJobToken}
use Rattle.declare_msgs.specs.declared.tokens.AllocateMiningJobTokenSuccess.{AllocateMiningJobTokenSuccess}
use Rattle.declare_msgs.specs.declared.tokens.PushSolution.{PushSolution}
use Rattle.declare_msgs.specs.declared.declarations.ProvideMissingTransactions.{ProvideMissingTransactions}
use Rattle.declare_msgs.specs.declared.declarations.ProvideMissingTransactionsSuccess.{ProvideMissingTransactionsSuccess}
use Rattle.declare_msgs.specs.declared.declarations.DeclareMiningJob.{DeclareMiningJob}
use Rattle.declare_msgs.specs.declared.declarations.DeclareMiningJobSuccess.{DeclareMiningJobSuccess}
use Rattle.declare_msgs.specs.declared.declarations.DeclareMiningJobError.{DeclareMiningJobError}
use Rattle.declare_msgs.specs.declared.message.Declare.{Declare}
use Rattle.declare_msgs.specs.declared.message.Declare.TheVariants as messages

-- the fields of each message, in their order
abbrev pub allocate_mining_job_token : AllocateMiningJobToken → List FieldValue
allocate_mining_job_token m = Bytes m.user_identifier.now ∷ Number m.request_id ∷ []

abbrev pub allocate_mining_job_token_success : AllocateMiningJobTokenSuccess → List FieldValue
allocate_mining_job_token_success m =
    Number m.request_id ∷ Bytes m.mining_job_token.now ∷ Bytes m.coinbase_tx_outputs.now ∷ []

abbrev pub provide_missing_transactions : ProvideMissingTransactions → List FieldValue
provide_missing_transactions m =
    Number m.request_id ∷ Numbers (numbers_of m.unknown_tx_position_list.spelled.now) ∷ []

abbrev pub provide_missing_transactions_success :
    ProvideMissingTransactionsSuccess → List FieldValue
provide_missing_transactions_success m =
    Number m.request_id ∷
    Parts (parts_at m.transaction_list.count m.transaction_list.spelled.now) ∷ []

abbrev pub declare_mining_job : DeclareMiningJob → List FieldValue
declare_mining_job m =
    Number m.request_id ∷ Bytes m.mining_job_token.now ∷ Number m.version ∷
    Bytes m.coinbase_tx_prefix.now ∷ Bytes m.coinbase_tx_suffix.now ∷
    Parts m.wtxid_list.items.now ∷ Bytes m.excess_data.now ∷ []

abbrev pub declare_mining_job_success : DeclareMiningJobSuccess → List FieldValue
declare_mining_job_success m = Number m.request_id ∷ Bytes m.new_mining_job_token.now ∷ []

abbrev pub declare_mining_job_error : DeclareMiningJobError → List FieldValue
declare_mining_job_error m =
    Number m.request_id ∷ Bytes m.error_code.now ∷ Bytes m.error_details.now ∷ []

abbrev pub push_solution : PushSolution → List FieldValue
push_solution m =
    Bytes m.extranonce.now ∷ Bytes m.prev_hash ∷ Number m.nonce ∷ Number m.ntime ∷
    Number m.nbits ∷ Number m.version ∷ []

-- a message is its kind and its fields
abbrev pub declare_message : Declare → Message
declare_message (messages.AllocateMiningJobToken m) =
    record { kind = kinds.ALLOCATE_MINING_JOB_TOKEN; fields = allocate_mining_job_token m }
declare_message (messages.AllocateMiningJobTokenSuccess m) =
    record {
      kind = kinds.ALLOCATE_MINING_JOB_TOKEN_SUCCESS;
      fields = allocate_mining_job_token_success m;
    }
declare_message (messages.ProvideMissingTransactions m) =
    record { kind = kinds.PROVIDE_MISSING_TRANSACTIONS; fields = provide_missing_transactions m }
declare_message (messages.ProvideMissingTransactionsSuccess m) =
    record {
      kind = kinds.PROVIDE_MISSING_TRANSACTIONS_SUCCESS;
      fields = provide_missing_transactions_success m;
    }
declare_message (messages.DeclareMiningJob m) =
    record { kind = kinds.DECLARE_MINING_JOB; fields = declare_mining_job m }
declare_message (messages.DeclareMiningJobSuccess m) =
    record { kind = kinds.DECLARE_MINING_JOB_SUCCESS; fields = declare_mining_job_success m }
declare_message (messages.DeclareMiningJobError m) =
    record { kind = kinds.DECLARE_MINING_JOB_ERROR; fields = declare_mining_job_error m }
declare_message (messages.PushSolution m) =
    record { kind = kinds.PUSH_SOLUTION; fields = push_solution m }

-- what a function returned is the message of this kind whose fields the payload spells, or the
-- first defect
abbrev pub ReadsDeclare : ℕ → List ℕ → Result Declare MsgError → Type 0
ReadsDeclare kind payload result =
    GivesMessage declare_message result kind (values_of declare_table kind payload)
