-- What holds of each session (this project's own).
use Rattle.std.specs.Prelude.{◌≡◌, ℕ, Bool, List}
use Rattle.std.specs.List.{AllByRecursion}
use Rattle.pool_io.specs.Steps.{bytes_in}
use Rattle.sv2_frames.specs.Framing.{IsFrame}
use Rattle.sv2_frames.specs.Stream.{AreWithin, stream_of}
use Rattle.session_steps.specs.declared.manner.Manner.{Manner}
use Rattle.session_steps.specs.States.{State, most_payload, new_state}
use Rattle.session_steps.specs.Steps.{CanMeet, CanOverrun, Follows, IsWaiting, Met, SessionStep, frames_in, turns_in}

-- the bytes that were taken are the frames that were met, and then those that aren't, however they
-- came
abbrev pub TakenIsMet : Type 0
TakenIsMet =
    (worker : ℕ) (manner : Manner) (steps : List SessionStep) (last : State)
    → Follows worker (new_state manner) steps last
    → bytes_in (turns_in steps) ≡ stream_of (frames_in steps) last.unmet

-- All that was met was whole frames within the limit.
abbrev pub MetAreFrames : Type 0
MetAreFrames =
    (worker : ℕ) (first last : State) (steps : List SessionStep) → Follows worker first steps last
    → AllByRecursion IsFrame (frames_in steps) × AreWithin (most_payload first.talk.declares) (frames_in steps)

-- The bytes that aren't met decide what comes of them: one frame, or a header over the limit, or more
-- bytes are waited for.
pub record BytesDecide (s : State) : Type 0 where
  pub one_frame : (one other : Met) → CanMeet s one → CanMeet s other
      → (one.frame ≡ other.frame) × (one.rest ≡ other.rest)
  pub one_length : (len len' : ℕ) → CanOverrun s len → CanOverrun s len' → len ≡ len'
  pub frame_or_header : (met : Met) (len : ℕ) → CanMeet s met → CanOverrun s len → ⊥
  pub frame_or_wait : (met : Met) → IsWaiting s → CanMeet s met → ⊥
  pub header_or_wait : (len : ℕ) → IsWaiting s → CanOverrun s len → ⊥

abbrev pub AllBytesDecide : Type 0
AllBytesDecide = (s : State) → BytesDecide s
