-- The messages: each kind, its name, and its fields in their order (Stratum V2, "Message Types",
-- "Mining Protocol" and "Template Distribution Protocol"; the messages of job declaration and of
-- custom jobs are this project's own).
use Rattle.std.specs.Prelude.{ℕ, Option, List, [], ◌∷◌, ◌++◌, codes}
use Rattle.sv2_types.specs.Fields.{U8, U16, U32, U64, UINT256, BOOL, F32, STR0_255, B0_255, B0_32, B0_64K, OPTION_U32, SEQ0_255_U256, SEQ0_64K_U256, SEQ0_64K_U16, SEQ0_64K_B0_16M}
use Rattle.sv2_messages.specs.declared.kinds.TheConstants as kinds
use Rattle.sv2_messages.specs.Messages.{Row, field, message_name}

-- common and mining messages
abbrev pub mining_table : List Row
mining_table =
    record {
      kind = kinds.SETUP_CONNECTION;
      name = codes "SetupConnection";
      fields =
          field "protocol" U8 ∷ field "min_version" U16 ∷ field "max_version" U16 ∷
          field "flags" U32 ∷ field "endpoint_host" STR0_255 ∷ field "endpoint_port" U16 ∷
          field "vendor" STR0_255 ∷ field "hardware_version" STR0_255 ∷ field "firmware" STR0_255 ∷
          field "device_id" STR0_255 ∷ [];
    } ∷
    record {
      kind = kinds.SETUP_CONNECTION_SUCCESS;
      name = codes "SetupConnection.Success";
      fields =
          field "used_version" U16 ∷ field "flags" U32 ∷ [];
    } ∷
    record {
      kind = kinds.SETUP_CONNECTION_ERROR;
      name = codes "SetupConnection.Error";
      fields =
          field "flags" U32 ∷ field "error_code" STR0_255 ∷ [];
    } ∷
    record {
      kind = kinds.OPEN_STANDARD_MINING_CHANNEL;
      name = codes "OpenStandardMiningChannel";
      fields =
          field "request_id" U32 ∷ field "user_identity" STR0_255 ∷ field "nominal_hash_rate" F32 ∷
          field "max_target" UINT256 ∷ [];
    } ∷
    record {
      kind = kinds.OPEN_STANDARD_MINING_CHANNEL_SUCCESS;
      name = codes "OpenStandardMiningChannel.Success";
      fields =
          field "request_id" U32 ∷ field "channel_id" U32 ∷ field "target" UINT256 ∷
          field "extranonce_prefix" B0_32 ∷ field "group_channel_id" U32 ∷ [];
    } ∷
    record {
      kind = kinds.OPEN_MINING_CHANNEL_ERROR;
      name = codes "OpenMiningChannel.Error";
      fields =
          field "request_id" U32 ∷ field "error_code" STR0_255 ∷ [];
    } ∷
    record {
      kind = kinds.OPEN_EXTENDED_MINING_CHANNEL;
      name = codes "OpenExtendedMiningChannel";
      fields =
          field "request_id" U32 ∷ field "user_identity" STR0_255 ∷ field "nominal_hash_rate" F32 ∷
          field "max_target" UINT256 ∷ field "min_extranonce_size" U16 ∷ [];
    } ∷
    record {
      kind = kinds.OPEN_EXTENDED_MINING_CHANNEL_SUCCESS;
      name = codes "OpenExtendedMiningChannel.Success";
      fields =
          field "request_id" U32 ∷ field "channel_id" U32 ∷ field "target" UINT256 ∷
          field "extranonce_size" U16 ∷ field "extranonce_prefix" B0_32 ∷ [];
    } ∷
    record {
      kind = kinds.NEW_MINING_JOB;
      name = codes "NewMiningJob";
      fields =
          field "channel_id" U32 ∷ field "job_id" U32 ∷ field "min_ntime" OPTION_U32 ∷
          field "version" U32 ∷ field "merkle_root" UINT256 ∷ [];
    } ∷
    record {
      kind = kinds.UPDATE_CHANNEL;
      name = codes "UpdateChannel";
      fields =
          field "channel_id" U32 ∷ field "nominal_hash_rate" F32 ∷ field "maximum_target" UINT256 ∷
          [];
    } ∷
    record {
      kind = kinds.UPDATE_CHANNEL_ERROR;
      name = codes "UpdateChannel.Error";
      fields =
          field "channel_id" U32 ∷ field "error_code" STR0_255 ∷ [];
    } ∷
    record {
      kind = kinds.CLOSE_CHANNEL;
      name = codes "CloseChannel";
      fields =
          field "channel_id" U32 ∷ field "reason_code" STR0_255 ∷ [];
    } ∷
    record {
      kind = kinds.SET_EXTRANONCE_PREFIX;
      name = codes "SetExtranoncePrefix";
      fields =
          field "channel_id" U32 ∷ field "extranonce_prefix" B0_32 ∷ [];
    } ∷
    record {
      kind = kinds.SUBMIT_SHARES_STANDARD;
      name = codes "SubmitSharesStandard";
      fields =
          field "channel_id" U32 ∷ field "sequence_number" U32 ∷ field "job_id" U32 ∷
          field "nonce" U32 ∷ field "ntime" U32 ∷ field "version" U32 ∷ [];
    } ∷
    record {
      kind = kinds.SUBMIT_SHARES_EXTENDED;
      name = codes "SubmitSharesExtended";
      fields =
          field "channel_id" U32 ∷ field "sequence_number" U32 ∷ field "job_id" U32 ∷
          field "nonce" U32 ∷ field "ntime" U32 ∷ field "version" U32 ∷ field "extranonce" B0_32 ∷
          [];
    } ∷
    record {
      kind = kinds.SUBMIT_SHARES_SUCCESS;
      name = codes "SubmitShares.Success";
      fields =
          field "channel_id" U32 ∷ field "last_sequence_number" U32 ∷
          field "new_submits_accepted_count" U32 ∷ field "new_shares_sum" U64 ∷ [];
    } ∷
    record {
      kind = kinds.SUBMIT_SHARES_ERROR;
      name = codes "SubmitShares.Error";
      fields =
          field "channel_id" U32 ∷ field "sequence_number" U32 ∷ field "error_code" STR0_255 ∷ [];
    } ∷
    record {
      kind = kinds.NEW_EXTENDED_MINING_JOB;
      name = codes "NewExtendedMiningJob";
      fields =
          field "channel_id" U32 ∷ field "job_id" U32 ∷ field "min_ntime" OPTION_U32 ∷
          field "version" U32 ∷ field "version_rolling_allowed" BOOL ∷
          field "merkle_path" SEQ0_255_U256 ∷ field "coinbase_tx_prefix" B0_64K ∷
          field "coinbase_tx_suffix" B0_64K ∷ [];
    } ∷
    record {
      kind = kinds.MINING_SET_NEW_PREV_HASH;
      name = codes "SetNewPrevHash";
      fields =
          field "channel_id" U32 ∷ field "job_id" U32 ∷ field "prev_hash" UINT256 ∷
          field "min_ntime" U32 ∷ field "nbits" U32 ∷ [];
    } ∷
    record {
      kind = kinds.SET_TARGET;
      name = codes "SetTarget";
      fields =
          field "channel_id" U32 ∷ field "maximum_target" UINT256 ∷ [];
    } ∷
    record {
      kind = kinds.SET_CUSTOM_MINING_JOB;
      name = codes "SetCustomMiningJob";
      fields =
          field "channel_id" U32 ∷ field "request_id" U32 ∷ field "token" B0_255 ∷
          field "version" U32 ∷ field "prev_hash" UINT256 ∷ field "min_ntime" U32 ∷
          field "nbits" U32 ∷ field "coinbase_tx_version" U32 ∷ field "coinbase_prefix" B0_255 ∷
          field "coinbase_tx_input_sequence" U32 ∷ field "coinbase_tx_outputs" B0_64K ∷
          field "coinbase_tx_locktime" U32 ∷ field "merkle_path" SEQ0_255_U256 ∷ [];
    } ∷
    record {
      kind = kinds.SET_CUSTOM_MINING_JOB_SUCCESS;
      name = codes "SetCustomMiningJob.Success";
      fields =
          field "channel_id" U32 ∷ field "request_id" U32 ∷ field "job_id" U32 ∷ [];
    } ∷
    record {
      kind = kinds.SET_CUSTOM_MINING_JOB_ERROR;
      name = codes "SetCustomMiningJob.Error";
      fields =
          field "channel_id" U32 ∷ field "request_id" U32 ∷ field "error_code" STR0_255 ∷ [];
    } ∷
    []

-- template distribution
abbrev pub template_table : List Row
template_table =
    record {
      kind = kinds.COINBASE_OUTPUT_CONSTRAINTS;
      name = codes "CoinbaseOutputConstraints";
      fields =
          field "max_additional_size" U32 ∷ field "max_additional_sigops" U16 ∷ [];
    } ∷
    record {
      kind = kinds.NEW_TEMPLATE;
      name = codes "NewTemplate";
      fields =
          field "template_id" U64 ∷ field "future_template" BOOL ∷ field "version" U32 ∷
          field "coinbase_tx_version" U32 ∷ field "coinbase_prefix" B0_255 ∷
          field "coinbase_tx_input_sequence" U32 ∷ field "coinbase_tx_value_remaining" U64 ∷
          field "coinbase_tx_outputs_count" U32 ∷ field "coinbase_tx_outputs" B0_64K ∷
          field "coinbase_tx_locktime" U32 ∷ field "merkle_path" SEQ0_255_U256 ∷ [];
    } ∷
    record {
      kind = kinds.TEMPLATE_SET_NEW_PREV_HASH;
      name = codes "SetNewPrevHash";
      fields =
          field "template_id" U64 ∷ field "prev_hash" UINT256 ∷ field "header_timestamp" U32 ∷
          field "nbits" U32 ∷ field "target" UINT256 ∷ [];
    } ∷
    record {
      kind = kinds.REQUEST_TRANSACTION_DATA;
      name = codes "RequestTransactionData";
      fields =
          field "template_id" U64 ∷ [];
    } ∷
    record {
      kind = kinds.REQUEST_TRANSACTION_DATA_SUCCESS;
      name = codes "RequestTransactionData.Success";
      fields =
          field "template_id" U64 ∷ field "excess_data" B0_64K ∷
          field "transaction_list" SEQ0_64K_B0_16M ∷ [];
    } ∷
    record {
      kind = kinds.REQUEST_TRANSACTION_DATA_ERROR;
      name = codes "RequestTransactionData.Error";
      fields =
          field "template_id" U64 ∷ field "error_code" STR0_255 ∷ [];
    } ∷
    record {
      kind = kinds.SUBMIT_SOLUTION;
      name = codes "SubmitSolution";
      fields =
          field "template_id" U64 ∷ field "version" U32 ∷ field "header_timestamp" U32 ∷
          field "header_nonce" U32 ∷ field "coinbase_tx" B0_64K ∷ [];
    } ∷
    []

-- job declaration
abbrev pub declare_table : List Row
declare_table =
    record {
      kind = kinds.ALLOCATE_MINING_JOB_TOKEN;
      name = codes "AllocateMiningJobToken";
      fields =
          field "user_identifier" STR0_255 ∷ field "request_id" U32 ∷ [];
    } ∷
    record {
      kind = kinds.ALLOCATE_MINING_JOB_TOKEN_SUCCESS;
      name = codes "AllocateMiningJobToken.Success";
      fields =
          field "request_id" U32 ∷ field "mining_job_token" B0_255 ∷
          field "coinbase_tx_outputs" B0_64K ∷ [];
    } ∷
    record {
      kind = kinds.PROVIDE_MISSING_TRANSACTIONS;
      name = codes "ProvideMissingTransactions";
      fields =
          field "request_id" U32 ∷ field "unknown_tx_position_list" SEQ0_64K_U16 ∷ [];
    } ∷
    record {
      kind = kinds.PROVIDE_MISSING_TRANSACTIONS_SUCCESS;
      name = codes "ProvideMissingTransactions.Success";
      fields =
          field "request_id" U32 ∷ field "transaction_list" SEQ0_64K_B0_16M ∷ [];
    } ∷
    record {
      kind = kinds.DECLARE_MINING_JOB;
      name = codes "DeclareMiningJob";
      fields =
          field "request_id" U32 ∷ field "mining_job_token" B0_255 ∷ field "version" U32 ∷
          field "coinbase_tx_prefix" B0_64K ∷ field "coinbase_tx_suffix" B0_64K ∷
          field "wtxid_list" SEQ0_64K_U256 ∷ field "excess_data" B0_64K ∷ [];
    } ∷
    record {
      kind = kinds.DECLARE_MINING_JOB_SUCCESS;
      name = codes "DeclareMiningJob.Success";
      fields =
          field "request_id" U32 ∷ field "new_mining_job_token" B0_255 ∷ [];
    } ∷
    record {
      kind = kinds.DECLARE_MINING_JOB_ERROR;
      name = codes "DeclareMiningJob.Error";
      fields =
          field "request_id" U32 ∷ field "error_code" STR0_255 ∷ field "error_details" B0_64K ∷ [];
    } ∷
    record {
      kind = kinds.PUSH_SOLUTION;
      name = codes "PushSolution";
      fields =
          field "extranonce" B0_32 ∷ field "prev_hash" UINT256 ∷ field "nonce" U32 ∷
          field "ntime" U32 ∷ field "nbits" U32 ∷ field "version" U32 ∷ [];
    } ∷
    []

-- all messages, each kind once
abbrev pub all_messages : List Row
all_messages = mining_table ++ (template_table ++ declare_table)

-- the name of a kind's message, where there is one
unfoldable pub name_of : ℕ → Option (List ℕ)
name_of kind = message_name all_messages kind
