-- Input that is whole frames which a session can take (this project's own).
use Rattle.std.specs.Prelude.{◌≡◌, ◌⊎◌, ℕ, ◌≤◌, Bool, true, false, Option, None, Some, List, [], ◌∷◌, length}
use Rattle.pool_io.specs.declared.turn.Turn.{Turn}
use Rattle.pool_io.specs.Steps.{bytes_in, steps_of}
use Rattle.sv2_frames.specs.Framing.{FrameValue, IsFrame}
use Rattle.sv2_frames.specs.Stream.{stream_of}
use Rattle.sv2_messages.specs.Messages.{Message}
use Rattle.pool_history.specs.declared.events.Role.{Role}
use Rattle.session_steps.specs.declared.ends.SessionEnd.{SessionEnd}
use Rattle.session_steps.specs.declared.ends.SessionEnd.TheVariants as end
use Rattle.session_steps.specs.declared.manner.Manner.{Manner}
use Rattle.session_steps.specs.Meeting.{Brings}
use Rattle.session_steps.specs.Setups.{Accepted, setup_in}
use Rattle.session_steps.specs.States.{most_payload}
use Rattle.session_steps.specs.Taken.{is_taken}
use Rattle.session_steps.specs.Talks.{Talk, new_talk}

-- a session of this role, whose setup said these flags
abbrev pub talk_of : Role → Bool → Bool → Option ℕ → Talk
talk_of role rolling declares flags =
    record (new_talk role rolling declares) { flags = flags }

-- the frame is taken, and is an acceptable setup with these flags
pub record IsGoodSetup (role : Role) (rolling declares : Bool) (frame : FrameValue) (flags : ℕ) :
    Type 0 where
  pub taken : is_taken (talk_of role rolling declares None) frame ≡ true
  pub message : Message
  pub brought : Brings frame message
  pub accepted : (read : Message) → Brings frame read → setup_in role rolling read ≡ Accepted flags

-- the frame isn't taken, or it is a message
abbrev pub IsIgnoredOrMessage : Talk → FrameValue → Type 0
IsIgnoredOrMessage talk frame =
    (is_taken talk frame ≡ false) ⊎ ((message : Message) × Brings frame message)

-- the payload is within the limit
abbrev pub IsWithinLimit : Bool → FrameValue → Type 0
IsWithinLimit declares frame = IsFrame frame × (length frame.payload ≤ most_payload declares)

-- each frame is within the limit, and each that is taken is a message, the first of them an
-- acceptable setup
abbrev pub AreGood : Role → Bool → Bool → Option ℕ → List FrameValue → Type 0
AreGood role rolling declares flags [] = Unit {0}
AreGood role rolling declares None (frame ∷ frames) =
    IsWithinLimit declares frame
    × (((is_taken (talk_of role rolling declares None) frame ≡ false) × AreGood role rolling declares None frames)
    ⊎ ((flags : ℕ) × IsGoodSetup role rolling declares frame flags × AreGood role rolling declares (Some flags) frames))
AreGood role rolling declares (Some flags) (frame ∷ frames) =
    IsWithinLimit declares frame × IsIgnoredOrMessage (talk_of role rolling declares (Some flags)) frame
    × AreGood role rolling declares (Some flags) frames

-- all that comes is good frames
pub record IsGoodInput (manner : Manner) (told : List Turn) : Type 0 where
  pub frames : List FrameValue
  pub whole : bytes_in (steps_of told) ≡ stream_of frames []
  pub good : AreGood manner.role manner.rolling manner.declares None frames

-- the input isn't to blame
abbrev pub IsGoodEnd : SessionEnd → Type 0
IsGoodEnd (end.CutFrame count) = ⊥
IsGoodEnd (end.TooLong len) = ⊥
IsGoodEnd end.BadSetup = ⊥
IsGoodEnd (end.BadMessage kind) = ⊥
IsGoodEnd end.LineTooLong = ⊥
IsGoodEnd _ = Unit {0}
