-- What a frame of the upstream tells a proxy (Stratum V2, "Framing", "Mining Protocol").
use Rattle.std.specs.Prelude.{ℕ, zero, suc, ◌==◌, ◌%◌, ◌^◌, ◌&&◌, if◌then◌else◌, Option, None, Some, Result, Ok, Err, List, [], ◌∷◌, length, drop, nat_le}
use Rattle.sv2_types.specs.Fields.{FieldValue, Number, Bytes, Perhaps, Parts}
use Rattle.sv2_types.specs.Reading.{said}
use Rattle.sv2_frames.specs.Framing.{FrameValue, payload_length}
use Rattle.sv2_messages.specs.declared.error.MsgError.{MsgError}
use Rattle.sv2_messages.specs.declared.kinds.TheConstants as kinds
use Rattle.sv2_messages.specs.Reading.{values_of}
use Rattle.sv2_messages.specs.Tables.{mining_table}
use Rattle.v1_translate.specs.Heard.{Told, Opened, NotOpened, Target, Accepted, Refused, Tipped, Nothing, told_job}

-- ---- the frame that some bytes are

abbrev pub frame_in : List ℕ → Option FrameValue
frame_in bytes =
    if nat_le 6 (length bytes) && payload_length bytes == length (drop 6 bytes)
    then Some (record {
      ext = said 2 bytes;
      kind = said 1 (drop 2 bytes);
      payload = drop 6 bytes;
    })
    else None

-- ---- the values of fields, by their places

abbrev pub value_at : ℕ → List FieldValue → Option FieldValue
value_at place [] = None
value_at zero (value ∷ values) = Some value
value_at (suc place) (value ∷ values) = value_at place values

abbrev pub number_in : Option FieldValue → ℕ
number_in (Some (Number n)) = n
number_in _ = 0

abbrev pub bytes_in : Option FieldValue → List ℕ
bytes_in (Some (Bytes bytes)) = bytes
bytes_in _ = []

abbrev pub perhaps_in : Option FieldValue → Option ℕ
perhaps_in (Some (Perhaps n)) = n
perhaps_in _ = None

abbrev pub parts_in : Option FieldValue → List (List ℕ)
parts_in (Some (Parts parts)) = parts
parts_in _ = []

-- ---- what a message tells

-- that the setup was accepted, or what it tells a session of Stratum V1
pub data UpTold : Type 0 where
  SetUp : UpTold
  Tells : Told → UpTold

-- a setup is accepted with the version that it asked for
abbrev pub set_up_by : ℕ → UpTold
set_up_by version = if version == 2 then SetUp else Tells Nothing

abbrev pub opened_by : List FieldValue → Told
opened_by fields =
    Opened (record {
      channel = number_in (value_at 1 fields);
      target = bytes_in (value_at 2 fields);
      lead = bytes_in (value_at 4 fields);
      rolled = number_in (value_at 3 fields);
    })

abbrev pub job_by : List FieldValue → Told
job_by fields =
    told_job (perhaps_in (value_at 2 fields))
    (record {
      number = number_in (value_at 1 fields);
      version = number_in (value_at 3 fields);
      path = parts_in (value_at 5 fields);
      prefix = bytes_in (value_at 6 fields);
      suffix = bytes_in (value_at 7 fields);
    })

abbrev pub tip_by : List FieldValue → Told
tip_by fields =
    Tipped (record {
      job = number_in (value_at 1 fields);
      prev_hash = bytes_in (value_at 2 fields);
      min_ntime = number_in (value_at 3 fields);
      nbits = number_in (value_at 4 fields);
    })

abbrev pub told_by_kind : ℕ → List FieldValue → UpTold
told_by_kind kind fields =
    if kind == kinds.SETUP_CONNECTION_SUCCESS then set_up_by (number_in (value_at 0 fields))
    else if kind == kinds.OPEN_EXTENDED_MINING_CHANNEL_SUCCESS then Tells (opened_by fields)
    else if kind == kinds.OPEN_MINING_CHANNEL_ERROR
    then Tells (NotOpened (bytes_in (value_at 1 fields)))
    else if kind == kinds.SUBMIT_SHARES_SUCCESS
    then Tells (Accepted (number_in (value_at 1 fields)))
    else if kind == kinds.SUBMIT_SHARES_ERROR
    then Tells (Refused (number_in (value_at 1 fields)) (bytes_in (value_at 2 fields)))
    else if kind == kinds.NEW_EXTENDED_MINING_JOB then Tells (job_by fields)
    else if kind == kinds.MINING_SET_NEW_PREV_HASH then Tells (tip_by fields)
    else if kind == kinds.SET_TARGET then Tells (Target (bytes_in (value_at 1 fields)))
    else Tells Nothing

-- a payload that is no message of its kind tells nothing
abbrev pub told_by_values : ℕ → Result (List FieldValue) MsgError → UpTold
told_by_values kind (Err error) = Tells Nothing
told_by_values kind (Ok fields) = told_by_kind kind fields

abbrev pub told_by_payload : ℕ → List ℕ → UpTold
told_by_payload kind payload = told_by_values kind (values_of mining_table kind payload)

-- nor does a frame of an extension
abbrev pub told_by_frame : Option FrameValue → UpTold
told_by_frame None = Tells Nothing
told_by_frame (Some frame) =
    if frame.ext % 2 ^ 15 == 0
    then told_by_payload frame.kind frame.payload
    else Tells Nothing

unfoldable pub told_up : List ℕ → UpTold
told_up bytes = told_by_frame (frame_in bytes)
