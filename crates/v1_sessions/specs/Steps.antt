-- The steps of a session of lines, which may follow on which, and where they lead (this project's
-- own). The turns that it took, its calls and the bytes that it put are those of its steps, in
-- order.
use Rattle.std.specs.Prelude.{◌≡◌, ℕ, ◌<◌, ◌≤◌, Bool, true, false, Option, None, Some, List, [], ◌∷◌, ◌++◌, length, map}
use Rattle.std.specs.List.{flat_map, list_any}
use Rattle.pool_base.specs.Calls.{Outcome, Replied, Faulted}
use Rattle.pool_io.specs.Outside.{next_count}
use Rattle.pool_io.specs.Steps.{ReadStep}
use Rattle.pool_history.specs.declared.asking.Request.TheVariants as request
use Rattle.pool_history.specs.declared.refusals.BookError.{BookError}
use Rattle.pool_history.specs.declared.replies.Reply.{Reply}
use Rattle.pool_history.specs.Calls.{PoolCall}
use Rattle.v1_lines.specs.Lines.{IsLineText}
use Rattle.line_turns.specs.Hearing.{BeginsLongLine}
use Rattle.session_steps.specs.declared.ends.SessionEnd.TheVariants as end
use Rattle.session_steps.specs.States.{Stage, Reading, Asking, Committing, Polling, Leaving, Put, IsPutOf, nothing_put}
use Rattle.session_steps.specs.Steps as frames
use Rattle.session_steps.specs.Steps.{Books, bytes_of_frames, ended_by, writes_after_put}
use Rattle.v1_translate.specs.Lines.{line_reaction}
use Rattle.v1_translate.specs.State.{Terms}
use Rattle.v1_sessions.specs.Told.{heard_of}
use Rattle.v1_sessions.specs.Requests.{IsRequestFor, LineRequest}
use Rattle.v1_sessions.specs.States.{LineState, after_called, after_line, lines_after, lines_said}

-- a step: bytes that came; a line, with the bytes behind it, what it asks of the pool and what was
-- put of its own answer; a line that is too long; an Idle turn; the end of the input; a take that failed; memory that was
-- wanted; as many bytes as are taken; or a call, with what was put of its answer
pub data LineStep : Type 0 where
  Took : (bytes : List ℕ) → LineStep
  Heard : (line : List ℕ) → (rest : List ℕ) → (wish : Option LineRequest) → (put : Put) → LineStep
  Overran : LineStep
  Idled : LineStep
  Ended : LineStep
  Missed : LineStep
  Starved : LineStep
  Spent : LineStep
  Called : (call : PoolCall) → (put : Put) → LineStep

-- all lines that came are heard, and more may come
pub record IsWaiting (s : LineState) : Type 0 where
  pub reading : s.pool.stage ≡ Reading
  pub text : IsLineText s.pool.unmet

-- a turn may be taken
pub record CanTake (s : LineState) : Type 0 where
  pub waiting : IsWaiting s
  pub some : 0 < s.pool.bytes

-- bytes of a turn: 4,096 at most
pub record CanTakeBytes (s : LineState) (bytes : List ℕ) : Type 0 where
  pub can : CanTake s
  pub some : 0 < length bytes
  pub piece : length bytes ≤ 4096
  pub within : length bytes ≤ s.pool.bytes

-- the bytes begin with a line, what is said to it is put, and it asks this of the pool
pub record CanHear (terms : Terms) (s : LineState) (line rest : List ℕ)
    (wish : Option LineRequest) (put : Put) : Type 0 where
  pub reading : s.pool.stage ≡ Reading
  pub whole : s.pool.unmet ≡ line ++ 10 ∷ rest
  pub text : IsLineText line
  pub puts : IsPutOf (lines_said (line_reaction terms s.v1 line).says) put
  pub asks : IsRequestFor (line_reaction terms s.v1 line).after.channel
      (line_reaction terms s.v1 line).asks wish

-- the bytes begin with a line that is too long
pub record CanOverrun (s : LineState) : Type 0 where
  pub reading : s.pool.stage ≡ Reading
  pub long : BeginsLongLine s.pool.unmet

-- the request that a stage makes
abbrev pub Requests : Stage → LineState → PoolCall → Type 0
Requests (Asking asked) s call = call.asked ≡ asked
Requests (Committing brief) s call = Books s.pool.talk.about brief call.asked
Requests Polling s call = call.asked ≡ request.Poll s.pool.cursor
Requests (Leaving reason) s call = call.asked ≡ request.Leave
Requests _ s call = ⊥

-- what is put of its answer: the lines that are said to what it tells, or a front of them where a
-- put failed; a fault, and the answer that a session waited for to ask something, say nothing
abbrev pub PutsTold : Terms → Option LineRequest → LineState → Outcome Reply BookError → Put → Type 0
PutsTold terms (Some wish) s outcome put = put ≡ nothing_put
PutsTold terms None s (Faulted cause) put = put ≡ nothing_put
PutsTold terms None s (Replied answer) put =
    IsPutOf
    (bytes_of_frames (lines_after terms s.v1 (heard_of s.pool.stage s.pool.talk.about answer))) put

-- a leaving says nothing
abbrev pub PutsNoLeave : Stage → Put → Type 0
PutsNoLeave (Leaving reason) put = put ≡ nothing_put
PutsNoLeave _ put = Unit {0}

-- a request waits only while its session enters
abbrev pub WaitsToEnter : Option LineRequest → Stage → Type 0
WaitsToEnter (Some wish) (Asking asked) = Unit {0}
WaitsToEnter (Some wish) _ = ⊥
WaitsToEnter None stage = Unit {0}

pub record CanCall (worker : ℕ) (terms : Terms) (s : LineState) (call : PoolCall) (put : Put) :
    Type 0 where
  pub of_worker : call.worker ≡ worker
  pub requests : Requests s.pool.stage s call
  pub puts : PutsTold terms s.next s call.outcome put
  pub leaves : PutsNoLeave s.pool.stage put
  pub waits : WaitsToEnter s.next s.pool.stage

-- a step that may come next, in a session of this worker
abbrev pub CanStep : ℕ → Terms → LineState → LineStep → Type 0
CanStep worker terms s (Took bytes) = CanTakeBytes s bytes
CanStep worker terms s (Heard line rest wish put) = CanHear terms s line rest wish put
CanStep worker terms s Overran = CanOverrun s
CanStep worker terms s Idled = CanTake s
CanStep worker terms s Ended = CanTake s
CanStep worker terms s Missed = CanTake s
CanStep worker terms s Starved = s.pool.stage ≡ Reading
CanStep worker terms s Spent = IsWaiting s × (s.pool.bytes ≡ 0)
CanStep worker terms s (Called call put) = CanCall worker terms s call put

-- the same step of a session of frames leads there
abbrev pub as_frames : frames.SessionStep → LineState → LineState
as_frames step s = record s { pool = frames.after_step s.pool step }

-- where a step leads: the state is determined by the step
abbrev pub after_step : Terms → LineState → LineStep → LineState
after_step terms s (Took bytes) = as_frames (frames.Took bytes) s
after_step terms s (Heard line rest wish put) = after_line terms s line rest wish put
after_step terms s Overran = record s { pool = ended_by end.LineTooLong s.pool }
after_step terms s Idled = as_frames frames.Idled s
after_step terms s Ended = as_frames frames.Ended s
after_step terms s Missed = as_frames frames.Missed s
after_step terms s Starved = as_frames frames.Starved s
after_step terms s Spent = as_frames frames.Spent s
after_step terms s (Called call put) = after_called terms s.next s call put

-- the steps follow one on the other, from the one state to the other
abbrev pub Follows : ℕ → Terms → LineState → List LineStep → LineState → Type 0
Follows worker terms s [] t = t ≡ s
Follows worker terms s (step ∷ steps) t =
    CanStep worker terms s step × Follows worker terms (after_step terms s step) steps t

-- ---- what the steps do outside of the session

-- the turns that were taken: bytes, and None for an Idle one
abbrev pub turn_of : LineStep → List ReadStep
turn_of (Took bytes) = map Some bytes
turn_of Idled = None ∷ []
turn_of _ = []

abbrev pub turns_of : List LineStep → List ReadStep
turns_of steps = flat_map turn_of steps

-- the calls
abbrev pub call_of : LineStep → List PoolCall
call_of (Called call put) = call ∷ []
call_of _ = []

abbrev pub calls_of : List LineStep → List PoolCall
calls_of steps = flat_map call_of steps

-- what was put
abbrev pub put_of : LineStep → Put
put_of (Heard line rest wish put) = put
put_of (Called call put) = put
put_of _ = nothing_put

abbrev pub bytes_of : List LineStep → List ℕ
bytes_of steps = flat_map (λ step. (put_of step).bytes) steps

-- the end of the input is among the steps
abbrev pub is_end : LineStep → Bool
is_end Ended = true
is_end _ = false

abbrev pub has_ended : List LineStep → Bool
has_ended steps = list_any is_end steps

-- a count of reads that failed, and one of writes
abbrev pub reads_after_step : ℕ → LineStep → ℕ
reads_after_step count Missed = next_count count
reads_after_step count _ = count

abbrev pub reads_after : ℕ → List LineStep → ℕ
reads_after count [] = count
reads_after count (step ∷ steps) = reads_after (reads_after_step count step) steps

abbrev pub writes_after : ℕ → List LineStep → ℕ
writes_after count [] = count
writes_after count (step ∷ steps) = writes_after (writes_after_put count (put_of step).fault) steps
