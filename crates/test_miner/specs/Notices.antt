-- What a frame says to a miner. The messages, their kinds and their fields are Stratum V2's ("Mining
-- Protocol"); which of them a miner hears is this project's own.
use Rattle.std.specs.Prelude.{ℕ, zero, suc, ◌%◌, ◌==◌, ◌||◌, Bool, if◌then◌else◌, Option, None, Result, Ok, Err, List, [], ◌∷◌}
use Rattle.sv2_types.specs.Fields.{FieldValue, Number, Bytes, Perhaps}
use Rattle.sv2_frames.specs.Framing.{FrameValue}
use Rattle.sv2_messages.specs.declared.kinds.TheConstants as kinds
use Rattle.sv2_messages.specs.declared.error.MsgError.{MsgError}
use Rattle.sv2_messages.specs.Reading.{values_of}
use Rattle.sv2_messages.specs.Tables.{mining_table}
use Rattle.mining_msgs.specs.declared.jobs.NewMiningJob.{NewMiningJob}
use Rattle.mining_msgs.specs.declared.jobs.SetNewPrevHash.{SetNewPrevHash}
use Rattle.test_miner.specs.declared.notice.Notice.{Notice}
use Rattle.test_miner.specs.declared.notice.Notice.TheVariants.{SetUp, Refused, Opened, Job, Tip, Credited, Rejected, NoMessage, Other}

-- the number, the bytes or the optional number that a field is
abbrev pub number_in : FieldValue → ℕ
number_in (Number n) = n
number_in _ = 0

abbrev pub bytes_in : FieldValue → List ℕ
bytes_in (Bytes bytes) = bytes
bytes_in _ = []

abbrev pub perhaps_in : FieldValue → Option ℕ
perhaps_in (Perhaps n) = n
perhaps_in _ = None

-- the field at this place, counted from 0
abbrev pub field_in : ℕ → List FieldValue → FieldValue
field_in place [] = Number 0
field_in zero (value ∷ values) = value
field_in (suc place) (value ∷ values) = field_in place values

-- the job that these fields are
abbrev pub job_in : List FieldValue → NewMiningJob
job_in fields = record {
  channel_id = number_in (field_in 0 fields);
  job_id = number_in (field_in 1 fields);
  min_ntime = perhaps_in (field_in 2 fields);
  version = number_in (field_in 3 fields);
  merkle_root = bytes_in (field_in 4 fields);
}

-- the tip that these fields are
abbrev pub tip_in : List FieldValue → SetNewPrevHash
tip_in fields = record {
  channel_id = number_in (field_in 0 fields);
  job_id = number_in (field_in 1 fields);
  prev_hash = bytes_in (field_in 2 fields);
  min_ntime = number_in (field_in 3 fields);
  nbits = number_in (field_in 4 fields);
}

-- what a message says: the fields are at their places in the standard's tables
abbrev pub meaning : ℕ → List FieldValue → Notice
meaning kind fields =
    if kind == kinds.SETUP_CONNECTION_SUCCESS then SetUp (number_in (field_in 0 fields))
    else if kind == kinds.SETUP_CONNECTION_ERROR then Refused
    else if kind == kinds.OPEN_MINING_CHANNEL_ERROR then Refused
    else if kind == kinds.OPEN_STANDARD_MINING_CHANNEL_SUCCESS
    then Opened (number_in (field_in 0 fields)) (number_in (field_in 1 fields))
    else if kind == kinds.NEW_MINING_JOB then Job (job_in fields)
    else if kind == kinds.MINING_SET_NEW_PREV_HASH then Tip (tip_in fields)
    else if kind == kinds.SUBMIT_SHARES_SUCCESS
    then Credited (number_in (field_in 0 fields)) (number_in (field_in 1 fields))
    else if kind == kinds.SUBMIT_SHARES_ERROR
    then Rejected (number_in (field_in 0 fields)) (number_in (field_in 1 fields))
    else Other

-- the kinds that a miner hears
abbrev pub is_heard_kind : ℕ → Bool
is_heard_kind kind =
    kind == kinds.SETUP_CONNECTION_SUCCESS || kind == kinds.SETUP_CONNECTION_ERROR
    || kind == kinds.OPEN_STANDARD_MINING_CHANNEL_SUCCESS || kind == kinds.OPEN_MINING_CHANNEL_ERROR
    || kind == kinds.NEW_MINING_JOB || kind == kinds.SUBMIT_SHARES_SUCCESS
    || kind == kinds.SUBMIT_SHARES_ERROR || kind == kinds.MINING_SET_NEW_PREV_HASH

-- a payload that is no message of its kind
abbrev pub unread_notice : ℕ → Notice
unread_notice kind = if is_heard_kind kind then NoMessage else Other

-- a payload of this kind, by the values that it spells
abbrev pub notice_by : ℕ → Result (List FieldValue) MsgError → Notice
notice_by kind (Ok fields) = meaning kind fields
notice_by kind (Err error) = unread_notice kind

-- what a frame says; one with another extension bit than the channel bit says nothing
unfoldable pub notice_in : FrameValue → Notice
notice_in frame =
    if frame.ext % 0x8000 == 0
    then notice_by frame.kind (values_of mining_table frame.kind frame.payload)
    else Other
