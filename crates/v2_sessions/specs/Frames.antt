-- Frames as contracts see them, and what is made of one by its protocol (this project's own).
use Rattle.std.specs.Prelude.{◌≡◌, ℕ, List}
use Rattle.sv2_frames.specs.declared.framing.Frame.{Frame}
use Rattle.sv2_frames.specs.Framing.{FrameValue}
use Rattle.sv2_messages.specs.Messages.{Message, MsgOf, Row}
use Rattle.session_steps.specs.declared.meeting.Step.{Step}
use Rattle.session_steps.specs.declared.meeting.Step.TheVariants.{Ignore, Ask, Say, RefuseSetup, BadSetup, BadMessage}
use Rattle.session_steps.specs.Meeting.{LeadsBy}
use Rattle.session_steps.specs.Talks.{Talk}

-- a frame, without where its payload lies in memory
abbrev pub frame_value : Frame → FrameValue
frame_value frame = record { ext = frame.ext; kind = frame.kind; payload = frame.payload.now }

-- the payload brings a message of the protocol, and that leads on
pub record LeadsOn (table : List Row) (talk : Talk) (kind : ℕ) (payload : List ℕ) (step : Step)
    (next : Talk) : Type 0 where
  pub message : Message
  pub brought : MsgOf table kind payload message
  pub leads : LeadsBy talk.flags talk message step next

-- or it brings none
pub record BringsNone (table : List Row) (talk : Talk) (kind : ℕ) (payload : List ℕ) (told : ℕ)
    (next : Talk) : Type 0 where
  pub none : (message : Message) → MsgOf table kind payload message → ⊥
  pub kind_told : told ≡ kind
  pub same : next ≡ talk

-- what a session makes of a taken frame of a protocol
abbrev pub MeetsBy : List Row → Talk → ℕ → List ℕ → Step → Talk → Type 0
MeetsBy table talk kind payload (BadMessage told) next =
    BringsNone table talk kind payload told next
MeetsBy table talk kind payload (Ask asked) next = LeadsOn table talk kind payload (Ask asked) next
MeetsBy table talk kind payload (Say bytes) next = LeadsOn table talk kind payload (Say bytes) next
MeetsBy table talk kind payload (RefuseSetup code flags) next =
    LeadsOn table talk kind payload (RefuseSetup code flags) next
MeetsBy table talk kind payload BadSetup next = LeadsOn table talk kind payload BadSetup next
MeetsBy table talk kind payload Ignore next = ⊥
