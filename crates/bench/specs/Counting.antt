-- What the benchmark counts as a message (this project's own; what a message is, `sv2_messages`
-- says).
use Rattle.std.specs.Prelude.{◌≡◌, ◌⊎◌, ℕ, ◌+◌, ◌-◌, ◌^◌, min, Bool, true, List}
use Rattle.sv2_frames.specs.Framing.{FrameValue}
use Rattle.sv2_messages.specs.Messages.{Message, MsgOf}
use Rattle.sv2_messages.specs.Tables.{mining_table, template_table}

-- the payload is a mining or a template message of this kind
abbrev pub IsMessage : ℕ → List ℕ → Type 0
IsMessage kind payload =
    ((m : Message) × MsgOf mining_table kind payload m)
    ⊎ ((m : Message) × MsgOf template_table kind payload m)

-- one more, up to the greatest count of 64 bits
abbrev pub one_more : ℕ → ℕ
one_more count = min (count + 1) (2 ^ 64 - 1)

-- the frame is counted once, as a message or as another frame, and more frames are wanted
pub record CountsFrame (frame : FrameValue) (more : Bool)
    (messages others messages' others' : ℕ) : Type 0 where
  pub goes_on : more ≡ true
  pub message :
      IsMessage frame.kind frame.payload → (messages' ≡ one_more messages) × (others' ≡ others)
  pub other :
      (IsMessage frame.kind frame.payload → ⊥)
      → (messages' ≡ messages) × (others' ≡ one_more others)
