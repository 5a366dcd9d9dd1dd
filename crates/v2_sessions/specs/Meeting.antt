-- What is met, heard and asked, step by step (this project's own).
use Rattle.std.specs.Prelude.{◌≡◌, ℕ, ◌≤◌, Bool, true, false, Option, [], length}
use Rattle.pool_network.specs.Seen.{LinkSeen}
use Rattle.sv2_frames.specs.Framing.{FrameValue, IsFrame, frame_bytes}
use Rattle.sv2_frames.specs.Holding.{Holding, HoldsFrame, HoldsOver, IsCutWithin}
use Rattle.pool_io.specs.declared.sink.SinkFailed.{SinkFailed}
use Rattle.pool_history.specs.declared.asking.Request.{Request}
use Rattle.pool_history.specs.declared.asking.Request.TheVariants as request
use Rattle.pool_history.specs.declared.replies.Reply.{Reply}
use Rattle.pool_history.specs.declared.replies.Reply.TheVariants as reply
use Rattle.pool_history.specs.declared.shares.Submission.{Submission}
use Rattle.pool_history.specs.Calls.{PoolCall}
use Rattle.pool_history.specs.Headers.{Briefing}
use Rattle.session_steps.specs.declared.about.About.{About}
use Rattle.session_steps.specs.declared.about.About.TheVariants as topic
use Rattle.session_steps.specs.declared.ends.SessionEnd.{SessionEnd}
use Rattle.session_steps.specs.declared.ends.SessionEnd.TheVariants as end
use Rattle.session_steps.specs.declared.meeting.Step.{Step}
use Rattle.session_steps.specs.declared.meeting.Step.TheVariants as step
use Rattle.session_steps.specs.Answers.{answer_frames}
use Rattle.session_steps.specs.Meeting.{Meets}
use Rattle.session_steps.specs.States.{Stage, Committing, answered_stage, cursor_behind, end_stage, entered_after, news_stage, put_stage}
use Rattle.session_steps.specs.Steps.{Books, bytes_of_frames, end_after}
use Rattle.session_steps.specs.Talks.{heard}
use Rattle.v2_sessions.specs.declared.acting.Acted.{Acted}
use Rattle.v2_sessions.specs.declared.conversation.Conversation.{Conversation}
use Rattle.v2_sessions.specs.declared.conversation.AfterReply.{AfterReply}
use Rattle.v2_sessions.specs.declared.conversation.AfterReply.TheVariants as after
use Rattle.v2_sessions.specs.declared.meeting.Found.{Found}
use Rattle.v2_sessions.specs.declared.meeting.Found.TheVariants as found
use Rattle.v2_sessions.specs.Answerers.{MakesCall, outcome_of}
use Rattle.v2_sessions.specs.Links.{PutsOut}

-- a request that is about a share asks for that share's brief
abbrev pub AsksAsTold : Request → About → Type 0
AsksAsTold asked about = (sub : Submission) → about ≡ topic.Share sub → asked ≡ request.Brief sub

-- so does what a frame asks for
abbrev pub StepAsksAsTold : Step → About → Type 0
StepAsksAsTold made about = (asked : Request) → made ≡ step.Ask asked → AsksAsTold asked about

-- a held frame is met
pub record MeetsHeld (holding : Holding) (old : Conversation) (made : Step) (new : Conversation) :
    Type 0 where
  pub frame : FrameValue
  pub whole : holding.held ≡ frame_bytes frame
  pub fits : IsFrame frame
  pub within : length frame.payload ≤ holding.limit
  pub meets : Meets old.session frame made new.session
  pub entered : new.entered ≡ old.entered
  pub cursor : new.cursor ≡ old.cursor

-- what was found among the bytes that are held
abbrev pub Finds : Holding → Conversation → Found → Conversation → Type 0
Finds holding old found.Nothing new = IsCutWithin holding × (new ≡ old)
Finds holding old (found.Overlong len) new = HoldsOver len holding × (new ≡ old)
Finds holding old found.Memory new = new ≡ old
Finds holding old (found.Frame made) new = HoldsFrame holding × MeetsHeld holding old made new

-- a frame that was met isn't held any more
abbrev pub FindsNext : Holding → Holding → Conversation → Found → Conversation → Type 0
FindsNext holding now old found.Nothing new = IsCutWithin holding × (new ≡ old) × (now ≡ holding)
FindsNext holding now old (found.Overlong len) new =
    HoldsOver len holding × (new ≡ old) × (now ≡ holding)
FindsNext holding now old found.Memory new = (new ≡ old) × (now ≡ holding)
FindsNext holding now old (found.Frame made) new =
    IsCutWithin now × (now ≡ record { held = []; limit = holding.limit })
    × MeetsHeld holding old made new

-- the stage to which an answer leads
abbrev pub LeadsTo : AfterReply → About → Bool → ℕ → Stage → Type 0
LeadsTo (after.Book booking) about entered idles stage =
    (brief : Briefing) × Books about brief booking × (stage ≡ Committing brief)
LeadsTo after.Poll about entered idles stage = stage ≡ news_stage entered idles
LeadsTo (after.End reason) about entered idles stage = stage ≡ end_stage entered reason

-- a reply is heard and answered
pub record Hears (old : Conversation) (front : ℕ)
    (answer : Reply) (link link' : LinkSeen) (next : AfterReply) (new : Conversation) : Type 0 where
  pub fault : Option SinkFailed
  pub put : PutsOut (bytes_of_frames (answer_frames (heard old.session answer) answer))
      fault link link'
  pub talk : new.session ≡ heard old.session answer
  pub entered : new.entered ≡ entered_after old.entered answer
  pub cursor : new.cursor ≡ cursor_behind old.cursor front answer
  pub leads : (idles : ℕ) → LeadsTo next new.session.about new.entered idles
      (put_stage fault new.entered
      (answered_stage new.session.about new.entered idles answer))

-- a session that entered leaves, and where that fails a done one ends otherwise
pub record LeavesWith {A : Type 0} (worker : A → ℕ) (does : A → PoolCall → A → Type 0)
    (reason : SessionEnd) (old : A) (last : SessionEnd) (new : A) : Type 0 where
  pub acted : Acted
  pub called : MakesCall worker does old request.Leave acted new
  pub ends : last ≡ end_after reason (outcome_of acted.outcome)

abbrev pub Leaves : {A : Type 0} → (A → ℕ) → (A → PoolCall → A → Type 0) → Bool → SessionEnd → A
    → SessionEnd → A → Type 0
Leaves worker does true reason old last new = LeavesWith worker does reason old last new
Leaves worker does false reason old last new = (last ≡ reason) × (new ≡ old)

-- a pool that takes no more sessions ends the session
abbrev pub IsAfterAnswer : Reply → AfterReply → Type 0
IsAfterAnswer (reply.PoolFull most) next = next ≡ after.End end.PoolFull
IsAfterAnswer _ next = next ≡ after.Poll
