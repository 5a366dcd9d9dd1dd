-- What is heard in the turns of a link (this project's own).
use Rattle.std.specs.Prelude.{◌≡◌, ◌⊎◌, ℕ, Bool, true, false, is_none, List, [], ◌∷◌, ◌++◌}
use Rattle.std.specs.List.{AllByRecursion}
use Rattle.pool_io.specs.declared.turn.Turn.{Turn}
use Rattle.pool_io.specs.declared.turn.Turn.TheVariants as turn
use Rattle.sv2_frames.specs.declared.running.RunEnd.{RunEnd}
use Rattle.sv2_frames.specs.declared.running.RunEnd.TheVariants.{Done, Stopped, TooLong}
use Rattle.sv2_frames.specs.Framing.{FrameValue, IsFrame}
use Rattle.sv2_frames.specs.Holding.{HoldsOver, IsCutWithin}
use Rattle.sv2_frames.specs.Stream.{stream_of, AreWithin}
use Rattle.test_miner.specs.declared.hearing.Ear.{Ear}
use Rattle.test_miner.specs.Courses.{hear}
use Rattle.test_miner.specs.Notices.{notice_in}
use Rattle.test_miner.specs.States.{MinerState}

-- A machine hears a frame, where its state goes on by step; it wants no more where the state has come
-- to its end or memory ran out.
abbrev pub HearsBy :
    {E S : Type 0} → (E → S) → (E → Bool) → (FrameValue → S → S) → (S → Bool)
    → E → FrameValue → Bool → E → Type 0
HearsBy state_of lacks step goes_on old frame more new =
    ((more ≡ false) × (lacks new ≡ true))
    ⊎ ((more ≡ goes_on (state_of new)) × (state_of new ≡ step frame (state_of old))
    × (lacks new ≡ lacks old))

-- frames, one after the other
abbrev pub hear_frames : {S : Type 0} → (FrameValue → S → S) → List FrameValue → S → S
hear_frames step [] state = state
hear_frames step (frame ∷ frames) state = hear_frames step frames (step frame state)

-- a miner hears a frame
abbrev pub hear_frame : FrameValue → MinerState → MinerState
hear_frame frame state = hear (notice_in frame) state

abbrev pub HearsFrame : Ear → FrameValue → Bool → Ear → Type 0
HearsFrame old frame more new =
    HearsBy (λ (ear : Ear). ear.course) (λ (ear : Ear). ear.lacks_memory) hear_frame
    (λ (state : MinerState). is_none state.end) old frame more new

-- and frames
abbrev pub hear_all : List FrameValue → MinerState → MinerState
hear_all frames state = hear_frames hear_frame frames state

-- What is heard in a turn: frames, and how far the turn's bytes were read; or that there are no more,
-- behind these bytes of a frame that isn't whole.
pub data Hearing : Type 0 where
  Frames : List FrameValue → RunEnd → Hearing
  NoMore : List ℕ → Hearing

-- How far bytes were read: to the last, which lie in a frame that isn't whole; to a header over the
-- limit; or to the end of a frame behind which nothing is heard.
abbrev pub IsReadTo : RunEnd → ℕ → List ℕ → List ℕ → Type 0
IsReadTo Done limit left unread =
    (unread ≡ []) × IsCutWithin (record { held = left; limit = limit })
IsReadTo (TooLong len) limit left unread = HoldsOver len (record { held = left; limit = limit })
IsReadTo Stopped limit left unread = left ≡ []

-- behind the bytes that were left, these bytes are these frames; and what is left then
pub record BringsFrames (limit : ℕ) (before bytes : List ℕ) (frames : List FrameValue)
    (end : RunEnd) (left : List ℕ) : Type 0 where
  pub unread : List ℕ
  pub each : AllByRecursion IsFrame frames
  pub within : AreWithin limit frames
  pub stream : before ++ bytes ≡ stream_of frames (left ++ unread)
  pub read : IsReadTo end limit left unread

-- what is heard in a turn
abbrev pub IsHeardIn : ℕ → List ℕ → Turn → Hearing → List ℕ → Type 0
IsHeardIn limit before (turn.Piece bytes) (Frames frames end) left =
    BringsFrames limit before bytes frames end left
IsHeardIn limit before (turn.Piece bytes) (NoMore rest) left = ⊥
IsHeardIn limit before turn.Idle hearing left = (hearing ≡ Frames [] Done) × (left ≡ before)
IsHeardIn limit before turn.End hearing left = (hearing ≡ NoMore before) × (left ≡ before)

-- it is cut short by a frame
abbrev pub is_stopped : Hearing → Bool
is_stopped (Frames frames Stopped) = true
is_stopped (Frames frames Done) = false
is_stopped (Frames frames (TooLong len)) = false
is_stopped (NoMore rest) = false

-- What is heard in these turns, both from the newest on, and the bytes that are left. Frames are cut
-- short only where they have ended the run.
abbrev pub AreHeardIn :
    (List Hearing → Bool) → ℕ → List Turn → List Hearing → List ℕ → Type 0
AreHeardIn has_ended limit [] [] left = left ≡ []
AreHeardIn has_ended limit [] (hearing ∷ past) left = ⊥
AreHeardIn has_ended limit (turn ∷ turns) [] left = ⊥
AreHeardIn has_ended limit (turn ∷ turns) (hearing ∷ past) left =
    (before : List ℕ) × AreHeardIn has_ended limit turns past before
    × IsHeardIn limit before turn hearing left
    × (is_stopped hearing ≡ true → has_ended (hearing ∷ past) ≡ true)
