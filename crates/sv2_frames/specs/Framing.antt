-- Frames (Stratum V2, "Framing").
use Rattle.std.specs.Prelude.{◌≡◌, ℕ, ◌<◌, ◌^◌, List, ◌++◌, length, drop}
use Rattle.sv2_types.specs.Reading.{said}
use Rattle.sv2_types.specs.Spelling.{spelled_u8, spelled_u16, spelled_u24}

-- the six header bytes: extension type, message type, length of the payload
abbrev pub header_of : ℕ → ℕ → ℕ → List ℕ
header_of ext kind len = spelled_u16 ext ++ spelled_u8 kind ++ spelled_u24 len

-- the whole frame: its header, then its payload
abbrev pub frame_of : ℕ → ℕ → List ℕ → List ℕ
frame_of ext kind payload = header_of ext kind (length payload) ++ payload

-- a frame, without where its payload lies in memory
pub record FrameValue : Type 0 where
  pub ext : ℕ
  pub kind : ℕ
  pub payload : List ℕ

-- its bytes
abbrev pub frame_bytes : FrameValue → List ℕ
frame_bytes frame = frame_of frame.ext frame.kind frame.payload

-- a frame can have these fields
pub record FrameFits (ext kind : ℕ) (payload : List ℕ) : Type 0 where
  pub ext_fits : ext < 2 ^ 16
  pub kind_fits : kind < 2 ^ 8
  pub length_fits : length payload < 2 ^ 24

-- it is a frame
abbrev pub IsFrame : FrameValue → Type 0
IsFrame frame = FrameFits frame.ext frame.kind frame.payload

-- the length that a header says
abbrev pub payload_length : List ℕ → ℕ
payload_length bytes = said 3 (drop 3 bytes)

-- bytes that begin with two frames begin with one and the same
abbrev pub NoFrameBeginsAnother : Type 0
NoFrameBeginsAnother =
    (e k e' k' : ℕ) (p p' x y : List ℕ) → FrameFits e k p → FrameFits e' k' p'
    → frame_of e k p ++ x ≡ frame_of e' k' p' ++ y → (e ≡ e') × (k ≡ k') × (p ≡ p') × (x ≡ y)
