-- The frames of the upstream that a proxy takes, and whether they let it go on (Stratum V2, "Framing",
-- "Mining Protocol"; which frames are taken is this project's own).
use Rattle.std.specs.Prelude.{◌≡◌, ℕ, ◌==◌, ◌%◌, ◌^◌, ◌≤◌, ◌&&◌, ◌||◌, Bool, true, if◌then◌else◌, List, ◌++◌, length, nat_le}
use Rattle.sv2_frames.specs.Framing.{FrameValue, IsFrame, frame_bytes}
use Rattle.sv2_messages.specs.declared.kinds.TheConstants as kinds
use Rattle.sv2_messages.specs.Messages.{Message, MsgOf}
use Rattle.sv2_messages.specs.Tables.{mining_table}
use Rattle.proxy_rules.specs.Frames.{number_in, value_at}
use Rattle.proxy_server.specs.declared.phase.UpPhase.{UpPhase}
use Rattle.proxy_server.specs.declared.phase.UpPhase.TheVariants.{Unset, Unopened, Opened, Unfit}

-- the most bytes of a payload
abbrev pub most_payload : ℕ
most_payload = 262144

abbrev pub is_up_kind : ℕ → Bool
is_up_kind kind =
    kind == kinds.SETUP_CONNECTION_SUCCESS || kind == kinds.SETUP_CONNECTION_ERROR
    || kind == kinds.OPEN_MINING_CHANNEL_ERROR
    || kind == kinds.OPEN_EXTENDED_MINING_CHANNEL_SUCCESS
    || kind == kinds.SUBMIT_SHARES_SUCCESS || kind == kinds.SUBMIT_SHARES_ERROR
    || kind == kinds.NEW_EXTENDED_MINING_JOB || kind == kinds.MINING_SET_NEW_PREV_HASH
    || kind == kinds.SET_TARGET

-- of these kinds those are taken that have no extension bit but the channel bit
abbrev pub is_up_frame : ℕ → ℕ → Bool
is_up_frame ext kind = ext % 2 ^ 15 == 0 && is_up_kind kind

-- a frame is cut out of what came, leaving a rest
pub record CutsFrame (frame : FrameValue) (bytes rest : List ℕ) : Type 0 where
  pub fits : IsFrame frame
  pub within : length frame.payload ≤ most_payload
  pub whole : bytes ≡ frame_bytes frame ++ rest

-- it is taken, and its payload is this message
pub record TakesFrame (frame : FrameValue) (message : Message) : Type 0 where
  pub taken : is_up_frame frame.ext frame.kind ≡ true
  pub message_is : MsgOf mining_table frame.kind frame.payload message

-- it is taken, and its payload is none
pub record TakesNoMessage (frame : FrameValue) : Type 0 where
  pub taken : is_up_frame frame.ext frame.kind ≡ true
  pub none : (message : Message) → MsgOf mining_table frame.kind frame.payload message → ⊥

-- ---- whether a proxy can go on with an upstream

-- a setup is accepted with version 2
abbrev pub is_set_up : Message → Bool
is_set_up message =
    message.kind == kinds.SETUP_CONNECTION_SUCCESS && number_in (value_at 0 message.fields) == 2

-- a channel of whose extranonce 3 to 32 bytes are rolled
abbrev pub is_fit_size : ℕ → Bool
is_fit_size size = nat_le 3 size && nat_le size 32

abbrev pub phase_by_opening : Message → UpPhase
phase_by_opening message =
    if message.kind == kinds.OPEN_MINING_CHANNEL_ERROR then Unfit
    else if message.kind == kinds.OPEN_EXTENDED_MINING_CHANNEL_SUCCESS
    then (if is_fit_size (number_in (value_at 3 message.fields)) then Opened else Unfit)
    else Unopened

abbrev pub next_phase : UpPhase → Message → UpPhase
next_phase Unset message = if is_set_up message then Unopened else Unfit
next_phase Unopened message = phase_by_opening message
next_phase Opened message = Opened
next_phase Unfit message = Unfit
