-- The messages as contracts see them: their kinds and the values of their fields (this project's
-- own; the order of the fields is that of the table).
use Rattle.std.specs.Prelude.{ℕ, Result, List, [], ◌∷◌}
use Rattle.sv2_types.specs.Fields.{FieldValue, Number, Truth, Bytes, Perhaps, Parts}
use Rattle.sv2_messages.specs.declared.kinds.TheConstants as kinds
use Rattle.sv2_messages.specs.declared.error.MsgError.{MsgError}
use Rattle.sv2_messages.specs.Messages.{Message}
use Rattle.sv2_messages.specs.Reading.{GivesMessage, values_of}
use Rattle.sv2_messages.specs.Tables.{mining_table}
use Rattle.mining_msgs.specs.declared.setup.SetupConnection.{SetupConnection}
use Rattle.mining_msgs.specs.declared.setup.SetupConnectionSuccess.{SetupConnectionSuccess}
use Rattle.mining_msgs.specs.declared.setup.SetupConnectionError.{SetupConnectionError}
use Rattle.mining_msgs.specs.declared.channels.OpenStandardMiningChannel.{OpenStandardMiningChannel}
use Rattle.mining_msgs.specs.declared.channels.OpenStandardMiningChannelSuccess.{OpenStandardMiningChannelSuccess}
use Rattle.mining_msgs.specs.declared.channels.OpenMiningChannelError.{OpenMiningChannelError}
use Rattle.mining_msgs.specs.declared.channels.OpenExtendedMiningChannel.{OpenExtendedMiningChannel}
use Rattle.mining_msgs.specs.declared.channels.OpenExtendedMiningChannelSuccess.{OpenExtendedMiningChannelSuccess}
use Rattle.mining_msgs.specs.declared.channels.UpdateChannel.{UpdateChannel}
use Rattle.mining_msgs.specs.declared.channels.UpdateChannelError.{UpdateChannelError}
use Rattle.mining_msgs.specs.declared.channels.CloseChannel.{CloseChannel}
use Rattle.mining_msgs.specs.declared.channels.SetExtranoncePrefix.{SetExtranoncePrefix}
use Rattle.mining_msgs.specs.declared.channels.SetTarget.{SetTarget}
use Rattle.mining_msgs.specs.declared.jobs.NewMiningJob.{NewMiningJob}
use Rattle.mining_msgs.specs.declared.jobs.NewExtendedMiningJob.{NewExtendedMiningJob}
use Rattle.mining_msgs.specs.declared.jobs.SetNewPrevHash.{SetNewPrevHash}
use Rattle.mining_msgs.specs.declared.custom_jobs.SetCustomMiningJob.{SetCustomMiningJob}
use Rattle.mining_msgs.specs.declared.custom_jobs.SetCustomMiningJobSuccess.{SetCustomMiningJobSuccess}
use Rattle.mining_msgs.specs.declared.custom_jobs.SetCustomMiningJobError.{SetCustomMiningJobError}
use Rattle.mining_msgs.specs.declared.shares.SubmitSharesStandard.{SubmitSharesStandard}
use Rattle.mining_msgs.specs.declared.shares.SubmitSharesExtended.{SubmitSharesExtended}
use Rattle.mining_msgs.specs.declared.shares.SubmitSharesSuccess.{SubmitSharesSuccess}
use Rattle.mining_msgs.specs.declared.shares.SubmitSharesError.{SubmitSharesError}
use Rattle.mining_msgs.specs.declared.message.Mining.{Mining}
use Rattle.mining_msgs.specs.declared.message.Mining.TheVariants as messages

-- the fields of each message, in their order
abbrev pub setup_connection : SetupConnection → List FieldValue
setup_connection m =
    Number m.protocol ∷ Number m.min_version ∷ Number m.max_version ∷ Number m.flags ∷
    Bytes m.endpoint_host.now ∷ Number m.endpoint_port ∷ Bytes m.vendor.now ∷
    Bytes m.hardware_version.now ∷ Bytes m.firmware.now ∷ Bytes m.device_id.now ∷ []

abbrev pub setup_connection_success : SetupConnectionSuccess → List FieldValue
setup_connection_success m = Number m.used_version ∷ Number m.flags ∷ []

abbrev pub setup_connection_error : SetupConnectionError → List FieldValue
setup_connection_error m = Number m.flags ∷ Bytes m.error_code.now ∷ []

abbrev pub open_standard_mining_channel : OpenStandardMiningChannel → List FieldValue
open_standard_mining_channel m =
    Number m.request_id ∷ Bytes m.user_identity.now ∷ Bytes m.nominal_hash_rate ∷
    Bytes m.max_target ∷ []

abbrev pub open_standard_mining_channel_success : OpenStandardMiningChannelSuccess → List FieldValue
open_standard_mining_channel_success m =
    Number m.request_id ∷ Number m.channel_id ∷ Bytes m.target ∷ Bytes m.extranonce_prefix.now ∷
    Number m.group_channel_id ∷ []

abbrev pub open_mining_channel_error : OpenMiningChannelError → List FieldValue
open_mining_channel_error m = Number m.request_id ∷ Bytes m.error_code.now ∷ []

abbrev pub open_extended_mining_channel : OpenExtendedMiningChannel → List FieldValue
open_extended_mining_channel m =
    Number m.request_id ∷ Bytes m.user_identity.now ∷ Bytes m.nominal_hash_rate ∷
    Bytes m.max_target ∷ Number m.min_extranonce_size ∷ []

abbrev pub open_extended_mining_channel_success : OpenExtendedMiningChannelSuccess → List FieldValue
open_extended_mining_channel_success m =
    Number m.request_id ∷ Number m.channel_id ∷ Bytes m.target ∷ Number m.extranonce_size ∷
    Bytes m.extranonce_prefix.now ∷ []

abbrev pub new_mining_job : NewMiningJob → List FieldValue
new_mining_job m =
    Number m.channel_id ∷ Number m.job_id ∷ Perhaps m.min_ntime ∷ Number m.version ∷
    Bytes m.merkle_root ∷ []

abbrev pub update_channel : UpdateChannel → List FieldValue
update_channel m = Number m.channel_id ∷ Bytes m.nominal_hash_rate ∷ Bytes m.maximum_target ∷ []

abbrev pub update_channel_error : UpdateChannelError → List FieldValue
update_channel_error m = Number m.channel_id ∷ Bytes m.error_code.now ∷ []

abbrev pub close_channel : CloseChannel → List FieldValue
close_channel m = Number m.channel_id ∷ Bytes m.reason_code.now ∷ []

abbrev pub set_extranonce_prefix : SetExtranoncePrefix → List FieldValue
set_extranonce_prefix m = Number m.channel_id ∷ Bytes m.extranonce_prefix.now ∷ []

abbrev pub submit_shares_standard : SubmitSharesStandard → List FieldValue
submit_shares_standard m =
    Number m.channel_id ∷ Number m.sequence_number ∷ Number m.job_id ∷ Number m.nonce ∷
    Number m.ntime ∷ Number m.version ∷ []

abbrev pub submit_shares_extended : SubmitSharesExtended → List FieldValue
submit_shares_extended m =
    Number m.channel_id ∷ Number m.sequence_number ∷ Number m.job_id ∷ Number m.nonce ∷
    Number m.ntime ∷ Number m.version ∷ Bytes m.extranonce.now ∷ []

abbrev pub submit_shares_success : SubmitSharesSuccess → List FieldValue
submit_shares_success m =
    Number m.channel_id ∷ Number m.last_sequence_number ∷ Number m.new_submits_accepted_count ∷
    Number m.new_shares_sum ∷ []

abbrev pub submit_shares_error : SubmitSharesError → List FieldValue
submit_shares_error m = Number m.channel_id ∷ Number m.sequence_number ∷ Bytes m.error_code.now ∷ []

abbrev pub new_extended_mining_job : NewExtendedMiningJob → List FieldValue
new_extended_mining_job m =
    Number m.channel_id ∷ Number m.job_id ∷ Perhaps m.min_ntime ∷ Number m.version ∷
    Truth m.version_rolling_allowed ∷ Parts m.merkle_path.items.now ∷
    Bytes m.coinbase_tx_prefix.now ∷ Bytes m.coinbase_tx_suffix.now ∷ []

abbrev pub mining_set_new_prev_hash : SetNewPrevHash → List FieldValue
mining_set_new_prev_hash m =
    Number m.channel_id ∷ Number m.job_id ∷ Bytes m.prev_hash ∷ Number m.min_ntime ∷
    Number m.nbits ∷ []

abbrev pub set_target : SetTarget → List FieldValue
set_target m = Number m.channel_id ∷ Bytes m.maximum_target ∷ []

abbrev pub set_custom_mining_job : SetCustomMiningJob → List FieldValue
set_custom_mining_job m =
    Number m.channel_id ∷ Number m.request_id ∷ Bytes m.token.now ∷ Number m.version ∷
    Bytes m.prev_hash ∷ Number m.min_ntime ∷ Number m.nbits ∷ Number m.coinbase_tx_version ∷
    Bytes m.coinbase_prefix.now ∷ Number m.coinbase_tx_input_sequence ∷
    Bytes m.coinbase_tx_outputs.now ∷ Number m.coinbase_tx_locktime ∷
    Parts m.merkle_path.items.now ∷ []

abbrev pub set_custom_mining_job_success : SetCustomMiningJobSuccess → List FieldValue
set_custom_mining_job_success m = Number m.channel_id ∷ Number m.request_id ∷ Number m.job_id ∷ []

abbrev pub set_custom_mining_job_error : SetCustomMiningJobError → List FieldValue
set_custom_mining_job_error m =
    Number m.channel_id ∷ Number m.request_id ∷ Bytes m.error_code.now ∷ []

-- a message is its kind and its fields
abbrev pub mining_message : Mining → Message
mining_message (messages.SetupConnection m) =
    record { kind = kinds.SETUP_CONNECTION; fields = setup_connection m }
mining_message (messages.SetupConnectionSuccess m) =
    record { kind = kinds.SETUP_CONNECTION_SUCCESS; fields = setup_connection_success m }
mining_message (messages.SetupConnectionError m) =
    record { kind = kinds.SETUP_CONNECTION_ERROR; fields = setup_connection_error m }
mining_message (messages.OpenStandardMiningChannel m) =
    record { kind = kinds.OPEN_STANDARD_MINING_CHANNEL; fields = open_standard_mining_channel m }
mining_message (messages.OpenStandardMiningChannelSuccess m) =
    record {
      kind = kinds.OPEN_STANDARD_MINING_CHANNEL_SUCCESS;
      fields = open_standard_mining_channel_success m;
    }
mining_message (messages.OpenMiningChannelError m) =
    record { kind = kinds.OPEN_MINING_CHANNEL_ERROR; fields = open_mining_channel_error m }
mining_message (messages.OpenExtendedMiningChannel m) =
    record { kind = kinds.OPEN_EXTENDED_MINING_CHANNEL; fields = open_extended_mining_channel m }
mining_message (messages.OpenExtendedMiningChannelSuccess m) =
    record {
      kind = kinds.OPEN_EXTENDED_MINING_CHANNEL_SUCCESS;
      fields = open_extended_mining_channel_success m;
    }
mining_message (messages.NewMiningJob m) =
    record { kind = kinds.NEW_MINING_JOB; fields = new_mining_job m }
mining_message (messages.UpdateChannel m) =
    record { kind = kinds.UPDATE_CHANNEL; fields = update_channel m }
mining_message (messages.UpdateChannelError m) =
    record { kind = kinds.UPDATE_CHANNEL_ERROR; fields = update_channel_error m }
mining_message (messages.CloseChannel m) =
    record { kind = kinds.CLOSE_CHANNEL; fields = close_channel m }
mining_message (messages.SetExtranoncePrefix m) =
    record { kind = kinds.SET_EXTRANONCE_PREFIX; fields = set_extranonce_prefix m }
mining_message (messages.SubmitSharesStandard m) =
    record { kind = kinds.SUBMIT_SHARES_STANDARD; fields = submit_shares_standard m }
mining_message (messages.SubmitSharesExtended m) =
    record { kind = kinds.SUBMIT_SHARES_EXTENDED; fields = submit_shares_extended m }
mining_message (messages.SubmitSharesSuccess m) =
    record { kind = kinds.SUBMIT_SHARES_SUCCESS; fields = submit_shares_success m }
mining_message (messages.SubmitSharesError m) =
    record { kind = kinds.SUBMIT_SHARES_ERROR; fields = submit_shares_error m }
mining_message (messages.NewExtendedMiningJob m) =
    record { kind = kinds.NEW_EXTENDED_MINING_JOB; fields = new_extended_mining_job m }
mining_message (messages.SetNewPrevHash m) =
    record { kind = kinds.MINING_SET_NEW_PREV_HASH; fields = mining_set_new_prev_hash m }
mining_message (messages.SetTarget m) = record { kind = kinds.SET_TARGET; fields = set_target m }
mining_message (messages.SetCustomMiningJob m) =
    record { kind = kinds.SET_CUSTOM_MINING_JOB; fields = set_custom_mining_job m }
mining_message (messages.SetCustomMiningJobSuccess m) =
    record { kind = kinds.SET_CUSTOM_MINING_JOB_SUCCESS; fields = set_custom_mining_job_success m }
mining_message (messages.SetCustomMiningJobError m) =
    record { kind = kinds.SET_CUSTOM_MINING_JOB_ERROR; fields = set_custom_mining_job_error m }

-- what a function returned is the message of this kind whose fields the payload spells, or the
-- first defect
abbrev pub ReadsMining : ℕ → List ℕ → Result Mining MsgError → Type 0
ReadsMining kind payload result =
    GivesMessage mining_message result kind (values_of mining_table kind payload)
