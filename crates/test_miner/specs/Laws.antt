-- What follows for the shares of a miner, whatever turns its link gives (this project's own).
use Rattle.std.specs.Prelude.{◌≡◌, ℕ, ◌≤◌, ◌==◌, Bool, if◌then◌else◌, is_some, Option, None, Some, List, [], ◌∷◌, ◌++◌, length, filter, not, false, reverse}
use Rattle.std.specs.List.{flat_map, list_any}
use Rattle.block_header.specs.Hash.{dsha, Meets}
use Rattle.sv2_frames.specs.Framing.{FrameValue}
use Rattle.test_miner.specs.declared.course.MinerEnd.{MinerEnd}
use Rattle.test_miner.specs.declared.course.MinerEnd.TheVariants.{Mined, Ended}
use Rattle.test_miner.specs.declared.miner.MinerTask.{MinerTask}
use Rattle.test_miner.specs.declared.notice.Notice.{Notice}
use Rattle.test_miner.specs.declared.notice.Notice.TheVariants.{SetUp, Refused, Opened, Job, Tip, Credited, Rejected, NoMessage, Other}
use Rattle.test_miner.specs.declared.trying.MinedShare.{MinedShare}
use Rattle.test_miner.specs.Courses.{hear, is_number}
use Rattle.test_miner.specs.Hearings.{Hearing, Frames, NoMore, hear_all}
use Rattle.test_miner.specs.Miners.{after, opening_said, said, share_in}
use Rattle.test_miner.specs.Notices.{notice_in}
use Rattle.test_miner.specs.Saying.{setup_frame, share_frame}
use Rattle.test_miner.specs.States.{MinerState}
use Rattle.test_miner.specs.Trying.{header_tried}

-- one share more, where there is one
abbrev pub with_share : Option MinedShare → List MinedShare → List MinedShare
with_share None older = older
with_share (Some share) older = share ∷ older

-- all shares that were submitted, the newest first
abbrev pub shares : MinerTask → List Hearing → List MinedShare
shares task [] = []
shares task (Frames frames end ∷ past) =
    with_share (share_in task end (hear_all frames (after task past))) (shares task past)
shares task (NoMore rest ∷ past) = shares task past

-- each header meets the class
abbrev pub MeetClass : ℕ → List MinedShare → Type 0
MeetClass class [] = Unit {0}
MeetClass class (share ∷ older) =
    Meets (dsha (header_tried share.job share.at)) class × MeetClass class older

abbrev pub SharesMeetClass : Type 0
SharesMeetClass = (task : MinerTask) (past : List Hearing) → MeetClass task.class (shares task past)

-- the sequence number of each is the number of shares before it
abbrev pub AreNumbered : List MinedShare → Type 0
AreNumbered [] = Unit {0}
AreNumbered (share ∷ older) = (share.number ≡ length older) × AreNumbered older

abbrev pub SharesAreNumbered : Type 0
SharesAreNumbered = (task : MinerTask) (past : List Hearing) → AreNumbered (shares task past)

-- the sequence numbers of the submissions that wait, and of those that were credited
pub record Answered : Type 0 where
  pub waits : List ℕ
  pub credited : List ℕ

-- a number is among these
abbrev pub is_among : ℕ → List ℕ → Bool
is_among number numbers = list_any (λ other. other == number) numbers

-- these without a number
abbrev pub without : ℕ → List ℕ → List ℕ
without number numbers = filter (λ other. not (other == number)) numbers

-- A Success of a submission that waits credits it, and a Success or an Error ends its waiting. Only
-- those of the miner's channel count.
abbrev pub answered_by : Notice → MinerState → Answered → Answered
answered_by (Credited channel number) state answered =
    if is_number channel state.channel
    then (if is_among number answered.waits
    then record {
      waits = without number answered.waits;
      credited = number ∷ answered.credited;
    } else answered)
    else answered
answered_by (Rejected channel number) state answered =
    if is_number channel state.channel
    then record answered { waits = without number answered.waits }
    else answered
answered_by (SetUp version) state answered = answered
answered_by Refused state answered = answered
answered_by (Opened request channel) state answered = answered
answered_by (Job job) state answered = answered
answered_by (Tip tip) state answered = answered
answered_by NoMessage state answered = answered
answered_by Other state answered = answered

-- the same by frames, one after the other, up to the miner's end
abbrev pub answered_by_all : List FrameValue → MinerState → Answered → Answered
answered_by_all [] state answered = answered
answered_by_all (frame ∷ frames) state answered =
    answered_by_all frames (hear (notice_in frame) state)
    (if is_some state.end then answered else answered_by (notice_in frame) state answered)

-- a share that is submitted waits
abbrev pub waits_too : Option MinedShare → Answered → Answered
waits_too None answered = answered
waits_too (Some share) answered = record answered { waits = share.number ∷ answered.waits }

-- what was answered after all turns
abbrev pub answered : MinerTask → List Hearing → Answered
answered task [] = record { waits = []; credited = [] }
answered task (Frames frames end ∷ past) =
    waits_too (share_in task end (hear_all frames (after task past)))
    (answered_by_all frames (after task past) (answered task past))
answered task (NoMore rest ∷ past) = answered task past

-- at most one submission waits
abbrev pub OneShareWaits : Type 0
OneShareWaits =
    (task : MinerTask) (past : List Hearing) → length (answered task past).waits ≤ 1

-- an end tells how many submissions were credited: all that were wanted, or those so far
abbrev pub TellsCredits : MinerTask → ℕ → Option MinerEnd → Type 0
TellsCredits task credited None = Unit {0}
TellsCredits task credited (Some (Mined count)) = (count ≡ task.count) × (credited ≡ count)
TellsCredits task credited (Some (Ended count)) = credited ≡ count

abbrev pub EndsTellCredits : Type 0
EndsTellCredits =
    (task : MinerTask) (past : List Hearing)
    → TellsCredits task (length (answered task past).credited) (after task past).end

-- All that a miner says: its setup, the opening of its channel once its connection is accepted, and
-- then the submissions of its shares, each once and in their order.
abbrev pub MinerSaysShares : Type 0
MinerSaysShares =
    (task : MinerTask) (past : List Hearing)
    → said task past ≡ setup_frame ++ (opening_said task false (after task past).is_set_up
    ++ flat_map share_frame (reverse (shares task past)))
