-- The frames that bring shares: SubmitSharesStandard (Stratum V2, "Mining Protocol").
use Rattle.std.specs.Prelude.{ℕ, ◌^◌, ◌≡◌, ◌<◌, ◌≤◌, ◌⊎◌, List, [], ◌∷◌, ◌++◌, length, take}
use Rattle.sv2_types.specs.Spelling.{spelled_u32}
use Rattle.sv2_frames.specs.Framing.{header_of, frame_of}
use Rattle.sv2_messages.specs.declared.kinds.TheConstants as kinds
use Rattle.mining_msgs.specs.declared.shares.SubmitSharesStandard.{SubmitSharesStandard}

-- the channel bit of the extension type is set or not, and no other bit is
abbrev pub IsPlainOrChannel : ℕ → Type 0
IsPlainOrChannel ext = (ext ≡ 0) ⊎ (ext ≡ 0x8000)

-- the fields of a submission in their order
abbrev pub share_payload : SubmitSharesStandard → List ℕ
share_payload s = spelled_u32 s.channel_id ++ spelled_u32 s.sequence_number ++ spelled_u32 s.job_id
    ++ spelled_u32 s.nonce ++ spelled_u32 s.ntime ++ spelled_u32 s.version

-- the six bytes begin a submission's frame
abbrev pub IsShareHeader : List ℕ → Type 0
IsShareHeader bytes = (ext : ℕ) × IsPlainOrChannel ext
    × (bytes ≡ header_of ext kinds.SUBMIT_SHARES_STANDARD 24)

-- each field has four bytes
pub record HasFourByteFields (s : SubmitSharesStandard) : Type 0 where
  pub channel : s.channel_id < 2 ^ 32
  pub sequence : s.sequence_number < 2 ^ 32
  pub job : s.job_id < 2 ^ 32
  pub nonce : s.nonce < 2 ^ 32
  pub ntime : s.ntime < 2 ^ 32
  pub version : s.version < 2 ^ 32

-- the bytes are the whole frame of a submission
pub record IsShareFrame (bytes : List ℕ) (s : SubmitSharesStandard) : Type 0 where
  pub ext : ℕ
  pub bit : IsPlainOrChannel ext
  pub fits : HasFourByteFields s
  pub spelled : bytes ≡ frame_of ext kinds.SUBMIT_SHARES_STANDARD (share_payload s)

-- the bytes are the frames of these submissions, one after the other, and then the rest
abbrev pub SpellShares : List ℕ → List SubmitSharesStandard → List ℕ → Type 0
SpellShares bytes [] rest = bytes ≡ rest
SpellShares bytes (s ∷ later) rest = (frame : List ℕ) × (after : List ℕ) × IsShareFrame frame s
    × (bytes ≡ frame ++ after) × SpellShares after later rest

-- where six bytes are there, they begin a submission's frame
abbrev pub BeginsShare : List ℕ → Type 0
BeginsShare bytes = 6 ≤ length bytes → IsShareHeader (take 6 bytes)

-- less than a whole frame, and no bytes of another header
pub record IsPartialShare (bytes : List ℕ) : Type 0 where
  pub short : length bytes < 30
  pub header : BeginsShare bytes

-- the first six bytes are another header
pub record IsOtherHeader (bytes : List ℕ) : Type 0 where
  pub long : 6 ≤ length bytes
  pub header : IsShareHeader (take 6 bytes) → ⊥

-- no frame of a submission begins the bytes
abbrev pub BeginsNoShare : List ℕ → Type 0
BeginsNoShare bytes = (frame more : List ℕ) (s : SubmitSharesStandard) → IsShareFrame frame s
    → bytes ≡ frame ++ more → ⊥
