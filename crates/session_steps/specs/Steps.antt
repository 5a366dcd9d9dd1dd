-- The steps of a session, which may follow on which, and where they lead (this project's own). The
-- turns that a session took, its calls and the bytes that it put are those of its steps, in order.
use Rattle.std.specs.Prelude.{◌≡◌, ℕ, ◌-◌, ◌^◌, ◌<◌, ◌≤◌, Bool, Option, None, Some, List, [], ◌∷◌, ◌++◌, length, map}
use Rattle.std.specs.List.{flat_map}
use Rattle.pool_base.specs.Calls.{Outcome, Replied, Faulted}
use Rattle.pool_io.specs.Outside.{next_count}
use Rattle.pool_io.specs.Steps.{ReadStep}
use Rattle.pool_io.specs.declared.sink.SinkFailed.{SinkFailed}
use Rattle.pool_io.specs.declared.sink.SinkFailed.TheVariants as sink
use Rattle.sv2_frames.specs.Framing.{FrameValue, IsFrame, frame_bytes, header_of}
use Rattle.sv2_frames.specs.Holding.{IsCut}
use Rattle.pool_history.specs.declared.asking.Request.{Request}
use Rattle.pool_history.specs.declared.asking.Request.TheVariants as request
use Rattle.pool_history.specs.declared.refusals.BookError.{BookError}
use Rattle.pool_history.specs.declared.replies.Reply.{Reply}
use Rattle.pool_history.specs.Calls.{PoolCall}
use Rattle.pool_history.specs.Headers.{Briefing}
use Rattle.session_steps.specs.declared.about.About.{About}
use Rattle.session_steps.specs.declared.about.About.TheVariants as topic
use Rattle.session_steps.specs.declared.ends.SessionEnd.{SessionEnd}
use Rattle.session_steps.specs.declared.ends.SessionEnd.TheVariants as end
use Rattle.session_steps.specs.declared.meeting.Step.{Step}
use Rattle.session_steps.specs.declared.meeting.Step.TheVariants as step
use Rattle.session_steps.specs.Answers.{answer_frames, greeting, refusal_frame}
use Rattle.session_steps.specs.Meeting.{Meets}
use Rattle.session_steps.specs.States.{State, Stage, Greeting, Reading, Refusing, Saying, Asking, Committing, Polling, Leaving, Over, Put, IsPutOf, nothing_put, most_payload, answered_stage, cursor_after, end_after_fault, end_stage, fault_end, hears, input_end, news_stage, next_stage, put_stage}
use Rattle.session_steps.specs.Talks.{Talk, heard}

-- a frame that was met: the bytes behind it, what the session made of it, and what it knew then
pub record Met : Type 0 where
  pub frame : FrameValue
  pub rest : List ℕ
  pub step : Step
  pub talk : Talk

-- a step: the greeting; bytes that came; a frame; the refusal of a setup; what is said without a
-- request; a header over the limit; an Idle turn; the end of the input; a take that failed; memory
-- that was wanted; as many bytes as are taken; or a call, with what was put of its answer
pub data SessionStep : Type 0 where
  Greeted : (put : Put) → SessionStep
  Took : (bytes : List ℕ) → SessionStep
  Framed : (met : Met) → SessionStep
  Refused : (put : Put) → SessionStep
  Said : (put : Put) → SessionStep
  Overran : (len : ℕ) → SessionStep
  Idled : SessionStep
  Ended : SessionStep
  Missed : SessionStep
  Starved : SessionStep
  Spent : SessionStep
  Called : (call : PoolCall) → (put : Put) → SessionStep

-- frames one after the other
abbrev pub bytes_of_frames : List (List ℕ) → List ℕ
bytes_of_frames frames = flat_map (λ frame. frame) frames

-- bytes begin with a header that says this length, over the limit
pub record BeginsOver (most len : ℕ) (bytes : List ℕ) : Type 0 where
  pub ext : ℕ
  pub kind : ℕ
  pub more : List ℕ
  pub header : bytes ≡ header_of ext kind len ++ more
  pub ext_fits : ext < 2 ^ 16
  pub kind_fits : kind < 2 ^ 8
  pub length_fits : len < 2 ^ 24
  pub over : most < len

-- the most bytes of a payload that a session takes
abbrev pub most_of : State → ℕ
most_of s = most_payload s.talk.declares

-- all frames that came are met, and more may come
pub record IsWaiting (s : State) : Type 0 where
  pub reading : s.stage ≡ Reading
  pub cut : IsCut s.unmet
  pub not_over : (len : ℕ) → ¬ BeginsOver (most_of s) len s.unmet

-- a turn may be taken
pub record CanTake (s : State) : Type 0 where
  pub waiting : IsWaiting s
  pub some : 0 < s.bytes

-- bytes of a turn: 4,096 at most
pub record CanTakeBytes (s : State) (bytes : List ℕ) : Type 0 where
  pub can : CanTake s
  pub some : 0 < length bytes
  pub piece : length bytes ≤ 4096
  pub within : length bytes ≤ s.bytes

-- the bytes begin with a frame, and the session meets it
pub record CanMeet (s : State) (met : Met) : Type 0 where
  pub reading : s.stage ≡ Reading
  pub whole : s.unmet ≡ frame_bytes met.frame ++ met.rest
  pub fits : IsFrame met.frame
  pub within : length met.frame.payload ≤ most_of s
  pub meets : Meets s.talk met.frame met.step met.talk

-- the bytes that aren't met begin with a header over the limit
pub record CanOverrun (s : State) (len : ℕ) : Type 0 where
  pub reading : s.stage ≡ Reading
  pub begins : BeginsOver (most_of s) len s.unmet

-- memory runs out for the first frames, or for a frame's request
abbrev pub CanStarve : Stage → Type 0
CanStarve Greeting = Unit {0}
CanStarve Reading = Unit {0}
CanStarve (Refusing code flags) = ⊥
CanStarve (Saying bytes) = ⊥
CanStarve (Asking asked) = ⊥
CanStarve (Committing brief) = ⊥
CanStarve Polling = ⊥
CanStarve (Leaving end) = ⊥
CanStarve (Over end) = ⊥

-- a setup is refused with its code and flags
abbrev pub Refuses : Stage → Put → Type 0
Refuses (Refusing code flags) put = IsPutOf (refusal_frame code flags) put
Refuses (Saying bytes) put = ⊥
Refuses Greeting put = ⊥
Refuses Reading put = ⊥
Refuses (Asking asked) put = ⊥
Refuses (Committing brief) put = ⊥
Refuses Polling put = ⊥
Refuses (Leaving end) put = ⊥
Refuses (Over end) put = ⊥

-- bytes are said
abbrev pub Says : Stage → Put → Type 0
Says (Saying bytes) put = IsPutOf bytes put
Says (Refusing code flags) put = ⊥
Says Greeting put = ⊥
Says Reading put = ⊥
Says (Asking asked) put = ⊥
Says (Committing brief) put = ⊥
Says Polling put = ⊥
Says (Leaving end) put = ⊥
Says (Over end) put = ⊥

-- what is put of an outcome: all frames of the reply's answer, or a front of them where a put
-- failed; a fault is answered by nothing
abbrev pub PutsAnswer : Talk → Outcome Reply BookError → Put → Type 0
PutsAnswer talk (Replied answer) put = IsPutOf (bytes_of_frames (answer_frames talk answer)) put
PutsAnswer talk (Faulted cause) put = put ≡ nothing_put

-- the same where the session hears the reply first
abbrev pub PutsHeard : Talk → Outcome Reply BookError → Put → Type 0
PutsHeard talk (Replied answer) put =
    IsPutOf (bytes_of_frames (answer_frames (heard talk answer) answer)) put
PutsHeard talk (Faulted cause) put = put ≡ nothing_put

-- a share that was briefed is booked with that brief
abbrev pub Books : About → Briefing → Request → Type 0
Books (topic.Share sub) brief (request.Commit checked) =
    (checked.brief ≡ brief) × (checked.sub ≡ sub)
Books about brief asked = ⊥

-- which call a stage makes
abbrev pub CanCall : Stage → State → PoolCall → Put → Type 0
CanCall (Asking asked) s call put = (call.asked ≡ asked) × PutsHeard s.talk call.outcome put
CanCall (Committing brief) s call put =
    Books s.talk.about brief call.asked × PutsAnswer s.talk call.outcome put
CanCall Polling s call put =
    (call.asked ≡ request.Poll s.cursor) × PutsAnswer s.talk call.outcome put
CanCall (Leaving end) s call put = (call.asked ≡ request.Leave) × (put ≡ nothing_put)
CanCall Greeting s call put = ⊥
CanCall Reading s call put = ⊥
CanCall (Refusing code flags) s call put = ⊥
CanCall (Saying bytes) s call put = ⊥
CanCall (Over end) s call put = ⊥

-- a step that may come next, in a session of this worker
abbrev pub CanStep : ℕ → State → SessionStep → Type 0
CanStep worker s (Greeted put) =
    (s.stage ≡ Greeting) × IsPutOf (bytes_of_frames (greeting s.talk.role)) put
CanStep worker s (Took bytes) = CanTakeBytes s bytes
CanStep worker s (Framed met) = CanMeet s met
CanStep worker s (Refused put) = Refuses s.stage put
CanStep worker s (Said put) = Says s.stage put
CanStep worker s (Overran len) = CanOverrun s len
CanStep worker s Idled = CanTake s
CanStep worker s Ended = CanTake s
CanStep worker s Missed = CanTake s
CanStep worker s Starved = CanStarve s.stage
CanStep worker s Spent = IsWaiting s × (s.bytes ≡ 0)
CanStep worker s (Called call put) = (call.worker ≡ worker) × CanCall s.stage s call put

-- the session at another stage, and at its end
abbrev pub at_stage : Stage → State → State
at_stage stage s = record s { stage = stage }

abbrev pub ended_by : SessionEnd → State → State
ended_by reason s = at_stage (end_stage s.entered reason) s

-- after a frame: the next one is met, or it asks for or says something, or it ends the session
abbrev pub met_stage : Bool → Step → Stage
met_stage entered step.Ignore = Reading
met_stage entered (step.Ask asked) = Asking asked
met_stage entered (step.Say bytes) = Saying bytes
met_stage entered (step.RefuseSetup code flags) = Refusing code flags
met_stage entered step.BadSetup = end_stage entered end.BadSetup
met_stage entered (step.BadMessage kind) = end_stage entered (end.BadMessage kind)

-- after a call that is no Leave
abbrev pub after_asking : State → ℕ → Outcome Reply BookError → Put → State
after_asking s front (Faulted cause) put = ended_by (fault_end cause) s
after_asking s front (Replied answer) put =
    let h = hears s front answer in
    at_stage
    (put_stage put.fault h.entered (answered_stage h.talk.about h.entered h.idles answer)) h

abbrev pub after_booking : State → Outcome Reply BookError → Put → State
after_booking s (Faulted cause) put = ended_by (fault_end cause) s
after_booking s (Replied answer) put =
    at_stage (put_stage put.fault s.entered (news_stage s.entered s.idles)) s

abbrev pub after_news : State → Outcome Reply BookError → Put → State
after_news s (Faulted cause) put = ended_by (fault_end cause) s
after_news s (Replied answer) put =
    record s {
      stage = put_stage put.fault s.entered (next_stage s.entered s.idles);
      cursor = cursor_after s.cursor answer;
    }

-- and after a Leave
abbrev pub end_after : SessionEnd → Outcome Reply BookError → SessionEnd
end_after reason (Replied answer) = reason
end_after reason (Faulted cause) = end_after_fault reason cause

abbrev pub after_call : Stage → State → PoolCall → Put → State
after_call (Asking asked) s call put = after_asking s call.front call.outcome put
after_call (Committing brief) s call put = after_booking s call.outcome put
after_call Polling s call put = after_news s call.outcome put
after_call (Leaving reason) s call put = at_stage (Over (end_after reason call.outcome)) s
after_call Greeting s call put = s
after_call Reading s call put = s
after_call (Refusing code flags) s call put = s
after_call (Saying bytes) s call put = s
after_call (Over reason) s call put = s

-- where a step leads: the state is determined by the step
abbrev pub after_step : State → SessionStep → State
after_step s (Greeted put) = at_stage (put_stage put.fault s.entered Reading) s
after_step s (Took bytes) =
    record s { idles = s.idle_turns; bytes = s.bytes - length bytes; unmet = s.unmet ++ bytes }
after_step s (Framed met) =
    record s { talk = met.talk; stage = met_stage s.entered met.step; unmet = met.rest }
after_step s (Refused put) =
    at_stage (put_stage put.fault s.entered (end_stage s.entered end.BadSetup)) s
after_step s (Said put) = at_stage (put_stage put.fault s.entered Reading) s
after_step s (Overran len) = ended_by (end.TooLong len) s
after_step s Idled =
    record s { stage = news_stage s.entered (s.idles - 1); idles = s.idles - 1 }
after_step s Ended = ended_by (input_end s.unmet) s
after_step s Missed = ended_by end.ReadFault s
after_step s Starved = ended_by end.Memory s
after_step s Spent = ended_by end.BytesOut s
after_step s (Called call put) = after_call s.stage s call put

-- the steps follow one on the other, from the one state to the other
abbrev pub Follows : ℕ → State → List SessionStep → State → Type 0
Follows worker s [] t = t ≡ s
Follows worker s (step ∷ steps) t =
    CanStep worker s step × Follows worker (after_step s step) steps t

-- the turns that were taken: bytes, and None for an Idle one
abbrev pub turn_in : SessionStep → List ReadStep
turn_in (Took bytes) = map Some bytes
turn_in Idled = None ∷ []
turn_in _ = []

abbrev pub turns_in : List SessionStep → List ReadStep
turns_in steps = flat_map turn_in steps

-- the calls
abbrev pub call_in : SessionStep → List PoolCall
call_in (Called call put) = call ∷ []
call_in _ = []

abbrev pub calls_in : List SessionStep → List PoolCall
calls_in steps = flat_map call_in steps

-- what was put in a step
abbrev pub put_in : SessionStep → Put
put_in (Greeted put) = put
put_in (Refused put) = put
put_in (Said put) = put
put_in (Called call put) = put
put_in _ = nothing_put

-- the bytes that were put
abbrev pub bytes_in_steps : List SessionStep → List ℕ
bytes_in_steps steps = flat_map (λ step. (put_in step).bytes) steps

-- the frames that were met
abbrev pub frame_in : SessionStep → List FrameValue
frame_in (Framed met) = met.frame ∷ []
frame_in _ = []

abbrev pub frames_in : List SessionStep → List FrameValue
frames_in steps = flat_map frame_in steps

-- a count of reads that failed, after a step
abbrev pub reads_after_step : ℕ → SessionStep → ℕ
reads_after_step count Missed = next_count count
reads_after_step count _ = count

-- and one of writes
abbrev pub writes_after_put : ℕ → Option SinkFailed → ℕ
writes_after_put count None = count
writes_after_put count (Some sink.Failed) = next_count count
writes_after_put count (Some sink.Memory) = count

abbrev pub reads_after : ℕ → List SessionStep → ℕ
reads_after count [] = count
reads_after count (step ∷ steps) = reads_after (reads_after_step count step) steps

abbrev pub writes_after : ℕ → List SessionStep → ℕ
writes_after count [] = count
writes_after count (step ∷ steps) = writes_after (writes_after_put count (put_in step).fault) steps
