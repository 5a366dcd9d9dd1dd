-- The script feed: what it knows and what it has said after any turns of its link (this project's
-- own).
use Rattle.std.specs.Prelude.{◌≡◌, ℕ, Bool, true, false, is_none, is_some, None, Some, List, [], ◌∷◌, ◌++◌, length}
use Rattle.pool_io.specs.declared.turn.Turn.{Turn}
use Rattle.sv2_types.specs.Fields.{Number}
use Rattle.sv2_frames.specs.declared.running.RunEnd.{RunEnd}
use Rattle.sv2_frames.specs.declared.running.RunEnd.TheVariants.{Done, Stopped, TooLong}
use Rattle.sv2_frames.specs.Framing.{FrameValue}
use Rattle.sv2_frames.specs.Holding.{IsCutWithin}
use Rattle.sv2_messages.specs.declared.kinds.TheConstants as kinds
use Rattle.sv2_messages.specs.Messages.{message_frame}
use Rattle.sv2_messages.specs.Tables.{mining_table}
use Rattle.test_miner.specs.declared.feed.FeedEnd.{FeedEnd}
use Rattle.test_miner.specs.declared.feed_machine.Feed.{Feed}
use Rattle.test_miner.specs.declared.feed_machine.FeedEar.{FeedEar}
use Rattle.test_miner.specs.Bounds.{most_payload}
use Rattle.test_miner.specs.FeedHearing.{closed_feed, cut_feed, hear_in_feed, new_feed}
use Rattle.test_miner.specs.FeedStates.{FeedState}
use Rattle.test_miner.specs.Hearings.{AreHeardIn, BringsFrames, Hearing, Frames, NoMore, HearsBy, hear_frames}
use Rattle.test_miner.specs.ScriptValues.{ScriptValue}

-- SetupConnection.Success with version 2 and flags 0
abbrev pub success_frame : List ℕ
success_frame = message_frame mining_table (record {
  kind = kinds.SETUP_CONNECTION_SUCCESS;
  fields = Number 2 ∷ Number 0 ∷ [];
})

-- a feed hears a frame
abbrev pub HearsInFeed : FeedEar → FrameValue → Bool → FeedEar → Type 0
HearsInFeed old frame more new =
    HearsBy (λ (ear : FeedEar). ear.course) (λ (ear : FeedEar). ear.lacks_memory) hear_in_feed
    (λ (state : FeedState). is_none state.end) old frame more new

-- a header over the limit is none of a caller that it can serve
abbrev pub read_so_far : RunEnd → FeedState → FeedState
read_so_far Done state = state
read_so_far Stopped state = state
read_so_far (TooLong len) state = cut_feed state

-- what is heard in a turn leads on
abbrev pub fed : Hearing → FeedState → FeedState
fed (Frames frames end) state = read_so_far end (hear_frames hear_in_feed frames state)
fed (NoMore rest) state = closed_feed (length rest) state

-- what a feed knows, by what it has heard from the newest turn on
abbrev pub fed_by : ScriptValue → List Hearing → FeedState
fed_by script [] = new_feed script
fed_by script (hearing ∷ past) = fed hearing (fed_by script past)

-- the whole script is said behind the answer to the setup
abbrev pub greeting_said : ScriptValue → Bool → Bool → List ℕ
greeting_said script false true = success_frame ++ script.bytes
greeting_said script false false = []
greeting_said script true now = []

-- all that it has said
abbrev pub given_by : ScriptValue → List Hearing → List ℕ
given_by script [] = []
given_by script (hearing ∷ past) =
    given_by script past
    ++ greeting_said script (fed_by script past).is_set_up
    (fed hearing (fed_by script past)).is_set_up

-- whether it has ended
abbrev pub has_ended_feed : ScriptValue → List Hearing → Bool
has_ended_feed script past = is_some (fed_by script past).end

-- it has taken just these turns, the newest first, and has said just these bytes
pub record HoldsFeed (feed : Feed) (turns : List Turn) (told : List ℕ) : Type 0 where
  pub past : List Hearing
  pub heard : AreHeardIn (has_ended_feed feed.ear.course.script) most_payload turns past
      feed.splitter.held
  pub knows : feed.ear.course ≡ fed_by feed.ear.course.script past
  pub given : told ≡ given_by feed.ear.course.script past

-- the same, and it hasn't ended
abbrev pub IsFeeding : Feed → List Turn → List ℕ → Type 0
IsFeeding feed turns told = HoldsFeed feed turns told × (feed.ear.course.end ≡ None)

-- the same, and it has ended so
abbrev pub HasFed : Feed → List Turn → List ℕ → FeedEnd → Type 0
HasFed feed turns told end = HoldsFeed feed turns told × (feed.ear.course.end ≡ Some end)

-- it has said nothing yet
pub record IsNewFeed (feed : Feed) : Type 0 where
  pub splitter : feed.splitter ≡ record { held = []; limit = most_payload }
  pub cut : IsCutWithin feed.splitter
  pub course : feed.ear.course ≡ new_feed feed.ear.course.script
  pub memory : feed.ear.lacks_memory ≡ false

-- it is between two turns, and has not ended
pub record IsReadyFeed (feed : Feed) : Type 0 where
  pub limit : feed.splitter.limit ≡ most_payload
  pub cut : IsCutWithin feed.splitter
  pub goes_on : feed.ear.course.end ≡ None
  pub memory : feed.ear.lacks_memory ≡ false

-- what comes of reading bytes so far
abbrev pub IsFeedLeftBy : RunEnd → Feed → Type 0
IsFeedLeftBy Done new = IsReadyFeed new
IsFeedLeftBy Stopped new = is_some new.ear.course.end ≡ true
IsFeedLeftBy (TooLong len) new = new.ear.course.end ≡ None

-- the frames of a piece were heard
pub record FeedHearsPiece (old : Feed) (bytes : List ℕ) (end : RunEnd) (new : Feed) : Type 0 where
  pub frames : List FrameValue
  pub brought : BringsFrames most_payload old.splitter.held bytes frames end new.splitter.held
  pub knows : new.ear.course ≡ hear_frames hear_in_feed frames old.ear.course
  pub left : IsFeedLeftBy end new

-- what a feed has said, by whether its caller has set up
abbrev pub whole_greeting : ScriptValue → Bool → List ℕ
whole_greeting script true = success_frame ++ script.bytes
whole_greeting script false = []

-- nothing before the setup, and behind it the answer and the whole script, once
abbrev pub FeedSaysScript : Type 0
FeedSaysScript =
    (script : ScriptValue) (past : List Hearing)
    → given_by script past ≡ whole_greeting script (fed_by script past).is_set_up
