-- The test miner: what it knows and what it has said after any turns of its link (this project's
-- own).
use Rattle.std.specs.Prelude.{◌≡◌, ◌<◌, ◌≤◌, ℕ, Bool, true, false, is_some, Option, None, Some, List, [], ◌∷◌, ◌++◌}
use Rattle.pool_io.specs.declared.turn.Turn.{Turn}
use Rattle.sv2_frames.specs.declared.running.RunEnd.{RunEnd}
use Rattle.sv2_frames.specs.declared.running.RunEnd.TheVariants.{Done, Stopped, TooLong}
use Rattle.sv2_frames.specs.Framing.{FrameValue}
use Rattle.sv2_frames.specs.Holding.{IsCutWithin}
use Rattle.test_miner.specs.declared.course.MinerEnd.{MinerEnd}
use Rattle.test_miner.specs.declared.miner.Miner.{Miner}
use Rattle.test_miner.specs.declared.miner.MinerTask.{MinerTask}
use Rattle.test_miner.specs.declared.trying.MinedShare.{MinedShare}
use Rattle.test_miner.specs.Bounds.{most_payload, tries_a_turn}
use Rattle.test_miner.specs.Courses.{cut_off, new_state, share_found, tries_made}
use Rattle.test_miner.specs.Hearings.{AreHeardIn, BringsFrames, Hearing, Frames, NoMore, hear_all}
use Rattle.test_miner.specs.Saying.{opening_frame, setup_frame, share_bytes}
use Rattle.test_miner.specs.States.{MinerState}

-- A turn whose bytes were read so far is closed: where they were read to the last, tries are made; a
-- header over the limit ends the run.
abbrev pub closed : MinerTask → RunEnd → MinerState → MinerState
closed task Done state = tries_made task.class tries_a_turn state
closed task Stopped state = state
closed task (TooLong len) state = cut_off state

-- the share that a turn finds
abbrev pub share_in : MinerTask → RunEnd → MinerState → Option MinedShare
share_in task Done state = share_found task.class tries_a_turn state
share_in task Stopped state = None
share_in task (TooLong len) state = None

abbrev pub share_said : MinerTask → RunEnd → MinerState → List ℕ
share_said task end state = share_bytes (share_in task end state)

-- a channel is asked for where the connection was accepted just now
abbrev pub opening_said : MinerTask → Bool → Bool → List ℕ
opening_said task false true = opening_frame task.user task.class
opening_said task false false = []
opening_said task true now = []

-- what is heard in a turn leads on
abbrev pub next : MinerTask → Hearing → MinerState → MinerState
next task (Frames frames end) state = closed task end (hear_all frames state)
next task (NoMore rest) state = cut_off state

-- what is said in a turn
abbrev pub said_in : MinerTask → Hearing → MinerState → List ℕ
said_in task (Frames frames end) state =
    opening_said task state.is_set_up (hear_all frames state).is_set_up
    ++ share_said task end (hear_all frames state)
said_in task (NoMore rest) state = []

-- what a miner knows, by what it has heard from the newest turn on
abbrev pub after : MinerTask → List Hearing → MinerState
after task [] = new_state task.count
after task (hearing ∷ past) = next task hearing (after task past)

-- all that it has said
abbrev pub said : MinerTask → List Hearing → List ℕ
said task [] = setup_frame
said task (hearing ∷ past) = said task past ++ said_in task hearing (after task past)

-- whether it has ended
abbrev pub has_ended : MinerTask → List Hearing → Bool
has_ended task past = is_some (after task past).end

-- it has taken just these turns, the newest first, and has said just these bytes
pub record HoldsMiner (miner : Miner) (turns : List Turn) (told : List ℕ) : Type 0 where
  pub past : List Hearing
  pub heard : AreHeardIn (has_ended miner.task) most_payload turns past miner.splitter.held
  pub knows : miner.ear.course ≡ after miner.task past
  pub says : told ≡ said miner.task past

-- the same, and it hasn't ended
abbrev pub IsMining : Miner → List Turn → List ℕ → Type 0
IsMining miner turns told = HoldsMiner miner turns told × (miner.ear.course.end ≡ None)

-- the same, and it has ended so
abbrev pub HasMined : Miner → List Turn → List ℕ → MinerEnd → Type 0
HasMined miner turns told end =
    HoldsMiner miner turns told × (miner.ear.course.end ≡ Some end)

-- a miner can be asked for this
pub record CanMine (task : MinerTask) : Type 0 where
  pub class : task.class ≤ 60
  pub count : 0 < task.count

-- it has said nothing yet
pub record IsNewMiner (miner : Miner) : Type 0 where
  pub can_mine : CanMine miner.task
  pub splitter : miner.splitter ≡ record { held = []; limit = most_payload }
  pub cut : IsCutWithin miner.splitter
  pub course : miner.ear.course ≡ new_state miner.task.count
  pub memory : miner.ear.lacks_memory ≡ false

-- it is between two turns, and has not ended
pub record IsReadyMiner (miner : Miner) : Type 0 where
  pub can_mine : CanMine miner.task
  pub limit : miner.splitter.limit ≡ most_payload
  pub cut : IsCutWithin miner.splitter
  pub goes_on : miner.ear.course.end ≡ None
  pub memory : miner.ear.lacks_memory ≡ false

-- what comes of reading bytes so far
abbrev pub IsLeftBy : RunEnd → Miner → Type 0
IsLeftBy Done new = IsReadyMiner new
IsLeftBy Stopped new = is_some new.ear.course.end ≡ true
IsLeftBy (TooLong len) new = new.ear.course.end ≡ None

-- the frames of a piece were heard
pub record HearsPiece (old : Miner) (bytes : List ℕ) (end : RunEnd) (new : Miner) : Type 0 where
  pub frames : List FrameValue
  pub brought : BringsFrames most_payload old.splitter.held bytes frames end new.splitter.held
  pub knows : new.ear.course ≡ hear_all frames old.ear.course
  pub left : IsLeftBy end new
