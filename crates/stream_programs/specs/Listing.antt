-- Which frames are good, and what bytes that go no further have (this project's own).
use Rattle.std.specs.Prelude.{◌≡◌, ℕ, ◌≤◌, ◌%◌, Some, List, length}
use Rattle.std.specs.List.{AllByRecursion}
use Rattle.sv2_types.specs.Fields.{FieldType}
use Rattle.sv2_frames.specs.Framing.{FrameValue, frame_bytes, IsFrame, payload_length}
use Rattle.sv2_frames.specs.Holding.{IsCut, HoldsOver}
use Rattle.sv2_frames.specs.Stream.{stream_of, AreWithin}
use Rattle.sv2_messages.specs.declared.error.MsgError.{MsgError}
use Rattle.sv2_messages.specs.Messages.{types_of}
use Rattle.sv2_messages.specs.Reading.{IsDefect}
use Rattle.sv2_messages.specs.Tables.{all_messages}
use Rattle.stream_programs.specs.declared.flaw.Flaw.{Flaw}
use Rattle.stream_programs.specs.declared.flaw.Flaw.TheVariants.{Payload, Length, Cut}

-- the greatest payload that is taken
abbrev pub payload_limit : ℕ
payload_limit = 262144

-- the frame is one of a message that is there, its low extension bits are 0, and its payload has
-- this as its first defect
pub record IsBad (frame : FrameValue) (error : MsgError) : Type 0 where
  pub plain : frame.ext % 0x8000 ≡ 0
  pub types : List FieldType
  pub row : types_of all_messages frame.kind ≡ Some types
  pub defect : IsDefect types frame.payload error

-- there is no such defect
abbrev pub IsGood : FrameValue → Type 0
IsGood frame = (error : MsgError) → IsBad frame error → ⊥

-- the bytes are good frames within the limit, one after the other, and then what is held
pub record ListsFrames (bytes : List ℕ) (frames : List FrameValue) (held : List ℕ) : Type 0 where
  pub whole : bytes ≡ stream_of frames held
  pub each : AllByRecursion IsFrame frames
  pub within : AreWithin payload_limit frames
  pub good : AllByRecursion IsGood frames

-- a proper prefix of a frame, without a header over the limit
pub record IsPartialFrame (held : List ℕ) : Type 0 where
  pub cut : IsCut held
  pub within : 6 ≤ length held → payload_length held ≤ payload_limit

-- a bad frame within the limit
pub record IsBadFrame (held : List ℕ) (error : MsgError) : Type 0 where
  pub frame : FrameValue
  pub fits : IsFrame frame
  pub within : length frame.payload ≤ payload_limit
  pub bad : IsBad frame error
  pub whole : held ≡ frame_bytes frame

-- what is held goes no further, whatever comes
abbrev pub IsFlawed : Flaw → List ℕ → Type 0
IsFlawed (Payload error) held = IsBadFrame held error
IsFlawed (Length len) held = HoldsOver len (record { held = held; limit = payload_limit })
IsFlawed (Cut count) held = ⊥
