-- What a splitter holds (this project's own).
use Rattle.std.specs.Prelude.{◌≡◌, ◌≢◌, ◌⊎◌, ℕ, ◌+◌, ◌<◌, ◌≤◌, ◌^◌, if◌then◌else◌, nat_lt, List, [], ◌++◌, length, take}
use Rattle.sv2_frames.specs.Framing.{header_of, frame_of, FrameValue, FrameFits, frame_bytes, IsFrame, payload_length}

-- what contracts see of a splitter: the bytes that are held, and the limit on a payload
pub record Holding : Type 0 where
  pub held : List ℕ
  pub limit : ℕ

-- where the first frame of these bytes ends, or its header where that says more than the limit or
-- is not all there
abbrev pub frame_end : ℕ → List ℕ → ℕ
frame_end limit bytes =
    if nat_lt (length bytes) 6 then 6
    else (if nat_lt limit (payload_length bytes) then 6 else 6 + payload_length bytes)

-- the bytes are a proper prefix of a frame
pub record IsCut (bytes : List ℕ) : Type 0 where
  pub frame : FrameValue
  pub fits : IsFrame frame
  pub missing : List ℕ
  pub some : missing ≢ []
  pub whole : bytes ++ missing ≡ frame_bytes frame

-- a whole frame is held, within the limit
pub record HoldsFrame (holding : Holding) : Type 0 where
  pub frame : FrameValue
  pub fits : IsFrame frame
  pub within : length frame.payload ≤ holding.limit
  pub whole : holding.held ≡ frame_bytes frame

-- a header is held that says this length, over the limit
pub record HoldsOver (len : ℕ) (holding : Holding) : Type 0 where
  pub ext : ℕ
  pub kind : ℕ
  pub ext_fits : ext < 2 ^ 16
  pub kind_fits : kind < 2 ^ 8
  pub length_fits : len < 2 ^ 24
  pub over : holding.limit < len
  pub header : holding.held ≡ header_of ext kind len

-- nothing more is taken
abbrev pub IsFull : Holding → Type 0
IsFull holding = HoldsFrame holding ⊎ ((len : ℕ) × HoldsOver len holding)

-- just this frame is held, within the limit
pub record IsHeldFrame (ext kind : ℕ) (payload : List ℕ) (holding : Holding) : Type 0 where
  pub whole : holding.held ≡ frame_of ext kind payload
  pub fits : FrameFits ext kind payload
  pub within : length payload ≤ holding.limit

-- a proper prefix of a frame is held, and no header over the limit
pub record IsCutWithin (holding : Holding) : Type 0 where
  pub cut : IsCut holding.held
  pub not_over : (len : ℕ) → ¬ (HoldsOver len holding)

-- a buffer of the limit and six bytes more, of which this many are held: one frame at most
pub record IsBuffer (buffer : List ℕ) (held limit : ℕ) : Type 0 where
  pub room : length buffer ≡ limit + 6
  pub within : held ≤ limit + 6
  pub present : held ≤ frame_end limit (take held buffer)
