-- Where a session stands, and what a step does to that (this project's own).
use Rattle.std.specs.Prelude.{◌≡◌, ℕ, ◌+◌, ◌^◌, ◌==◌, Bool, true, false, if◌then◌else◌, Option, None, Some, List, [], ◌∷◌, length}
use Rattle.pool_base.specs.Lists.{Begins}
use Rattle.pool_io.specs.declared.sink.SinkFailed.{SinkFailed}
use Rattle.pool_io.specs.declared.sink.SinkFailed.TheVariants as sink
use Rattle.pool_history.specs.declared.asking.Request.{Request}
use Rattle.pool_history.specs.declared.refusals.BookError.{BookError}
use Rattle.pool_history.specs.declared.refusals.BookError.TheVariants as fault
use Rattle.pool_history.specs.declared.replies.Reply.{Reply}
use Rattle.pool_history.specs.declared.replies.Reply.TheVariants as reply
use Rattle.pool_history.specs.Headers.{Briefing}
use Rattle.session_steps.specs.declared.manner.Manner.{Manner}
use Rattle.session_steps.specs.declared.about.About.{About}
use Rattle.session_steps.specs.declared.about.About.TheVariants as topic
use Rattle.session_steps.specs.declared.ends.SessionEnd.{SessionEnd}
use Rattle.session_steps.specs.declared.ends.SessionEnd.TheVariants as end
use Rattle.session_steps.specs.declared.meeting.SetupCode.{SetupCode}
use Rattle.session_steps.specs.Talks.{Talk, heard, new_talk}

-- what comes next: the greeting, a turn or a frame, the refusal of a setup, bytes that are said, a
-- request, the booking of a share whose header was computed, a poll, the leaving, or nothing
pub data Stage : Type 0 where
  Greeting : Stage
  Reading : Stage
  Refusing : (code : SetupCode) → (flags : ℕ) → Stage
  Saying : (bytes : List ℕ) → Stage
  Asking : (asked : Request) → Stage
  Committing : (brief : Briefing) → Stage
  Polling : Stage
  Leaving : (end : SessionEnd) → Stage
  Over : (end : SessionEnd) → Stage

-- a session: whether it entered, the place up to which it was told news, how many more Idle turns
-- in a row and bytes are waited for, and the bytes that were taken and aren't met as frames
pub record State : Type 0 where
  pub talk : Talk
  pub stage : Stage
  pub entered : Bool
  pub cursor : ℕ
  pub idle_turns : ℕ
  pub idles : ℕ
  pub bytes : ℕ
  pub unmet : List ℕ

-- the most bytes that a session takes
abbrev pub most_bytes : ℕ
most_bytes = 2 ^ 40

-- the most bytes of a payload, by whether declarations are taken
abbrev pub most_payload : Bool → ℕ
most_payload false = 262144
most_payload true = 8388608

-- a session before its first step
abbrev pub new_state : Manner → State
new_state manner = record {
  talk = new_talk manner.role manner.rolling manner.declares;
  stage = Greeting;
  entered = false;
  cursor = 0;
  idle_turns = manner.idle_turns;
  idles = manner.idle_turns;
  bytes = most_bytes;
  unmet = [];
}

-- a session that entered leaves before it is over
abbrev pub end_stage : Bool → SessionEnd → Stage
end_stage true end = Leaving end
end_stage false end = Over end

-- once all is answered, the next turn is taken, or there were too many Idle turns in a row
abbrev pub next_stage : Bool → ℕ → Stage
next_stage entered idles = if idles == 0 then end_stage entered end.IdleOut else Reading

-- a session that entered asks for its news first
abbrev pub news_stage : Bool → ℕ → Stage
news_stage true idles = Polling
news_stage false idles = next_stage false idles

-- what was put, and how that failed, if it did
pub record Put : Type 0 where
  pub bytes : List ℕ
  pub fault : Option SinkFailed

abbrev pub nothing_put : Put
nothing_put = record { bytes = []; fault = None }

-- all bytes were put, or a front of them
abbrev pub IsPutBy : Option SinkFailed → List ℕ → List ℕ → Type 0
IsPutBy None whole bytes = bytes ≡ whole
IsPutBy (Some cause) whole bytes = Begins bytes whole

abbrev pub IsPutOf : List ℕ → Put → Type 0
IsPutOf whole put = IsPutBy put.fault whole put.bytes

-- a put that failed ends the session
abbrev pub failed_end : SinkFailed → SessionEnd
failed_end sink.Failed = end.WriteFault
failed_end sink.Memory = end.Memory

abbrev pub put_stage : Option SinkFailed → Bool → Stage → Stage
put_stage None entered stage = stage
put_stage (Some sink.Failed) entered stage = end_stage entered end.WriteFault
put_stage (Some sink.Memory) entered stage = end_stage entered end.Memory

-- so does a request that isn't answered
abbrev pub fault_end : BookError → SessionEnd
fault_end fault.KeeperFault = end.LedgerFault
fault_end fault.Memory = end.Memory

-- where no byte comes any more: a rest of a frame is cut
abbrev pub input_end : List ℕ → SessionEnd
input_end [] = end.Done
input_end (byte ∷ bytes) = end.CutFrame (length (byte ∷ bytes))

-- an Enter that is answered enters the session, whose news come from behind it
abbrev pub entered_after : Bool → Reply → Bool
entered_after entered (reply.Entered session) = true
entered_after entered _ = entered

abbrev pub cursor_behind : ℕ → ℕ → Reply → ℕ
cursor_behind cursor front (reply.Entered session) = front + 1
cursor_behind cursor front _ = cursor

-- the news tell the place up to which they go
abbrev pub cursor_after : ℕ → Reply → ℕ
cursor_after cursor (reply.News at notes) = at
cursor_after cursor _ = cursor

-- a session hears a reply that came after so many events
abbrev pub hears : State → ℕ → Reply → State
hears s front answer = record s {
  talk = heard s.talk answer;
  entered = entered_after s.entered answer;
  cursor = cursor_behind s.cursor front answer;
}

-- a share's brief is followed by its booking
abbrev pub briefed_stage : About → Briefing → Stage → Stage
briefed_stage (topic.Share sub) brief stage = Committing brief
briefed_stage about brief stage = stage

-- after a reply: the pool takes no more sessions, or the share is to be booked, or the news come
abbrev pub answered_stage : About → Bool → ℕ → Reply → Stage
answered_stage about entered idles (reply.PoolFull most) = end_stage entered end.PoolFull
answered_stage about entered idles (reply.Brief brief) =
    briefed_stage about brief (news_stage entered idles)
answered_stage about entered idles _ = news_stage entered idles

-- a leaving that fails is the end of a session that was done; any other end stays
abbrev pub end_after_fault : SessionEnd → BookError → SessionEnd
end_after_fault end.Done cause = fault_end cause
end_after_fault reason cause = reason

-- a share that was briefed is booked
abbrev pub is_booked : About → Reply → Bool
is_booked (topic.Share sub) (reply.Brief brief) = true
is_booked about answer = false
