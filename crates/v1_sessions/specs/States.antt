-- Where a session of lines stands (this project's own).
use Rattle.std.specs.Prelude.{ℕ, if◌then◌else◌, Option, None, Some, is_some, List, [], ◌∷◌}
use Rattle.std.specs.List.{flat_map}
use Rattle.pool_base.specs.Calls.{Outcome, Replied, Faulted}
use Rattle.pool_io.specs.declared.sink.SinkFailed.{SinkFailed}
use Rattle.pool_history.specs.declared.asking.Request.TheVariants as request
use Rattle.pool_history.specs.declared.refusals.BookError.{BookError}
use Rattle.pool_history.specs.declared.replies.Reply.{Reply}
use Rattle.pool_history.specs.declared.replies.Reply.TheVariants as reply
use Rattle.pool_history.specs.Calls.{PoolCall}
use Rattle.link_turns.specs.declared.waiting.Waiting.{Waiting}
use Rattle.v2_sessions.specs.Beginning.{begun_state}
use Rattle.session_steps.specs.declared.about.About.TheVariants as topic
use Rattle.session_steps.specs.declared.ends.SessionEnd.TheVariants as end
use Rattle.session_steps.specs.declared.manner.Manner.{Manner}
use Rattle.session_steps.specs.States.{State, Asking, Reading, Put, failed_end, fault_end, hears, new_state}
use Rattle.session_steps.specs.Steps.{after_call, at_stage, ended_by}
use Rattle.v1_translate.specs.Heard.{Heard}
use Rattle.v1_translate.specs.Lines.{line_reaction}
use Rattle.v1_translate.specs.Messages.{reaction}
use Rattle.v1_translate.specs.State.{Terms, V1State, Saying, start}
use Rattle.v1_translate.specs.Saying.{line_of}
use Rattle.v1_sessions.specs.Requests.{LineRequest}
use Rattle.v1_sessions.specs.Told.{heard_of}

-- The session of frames beside it, with what is waited for and the bytes that came and aren't heard;
-- what it knows of Stratum V1; and the request that waits until the session has entered.
pub record LineState : Type 0 where
  pub pool : State
  pub v1 : V1State
  pub next : Option LineRequest

-- before the first turn: nothing is said to who may speak lines
abbrev pub new_line_state : Manner → LineState
new_line_state manner =
    record { pool = at_stage Reading (new_state manner); v1 = start; next = None }

-- where these bytes came first
abbrev pub begun_lines : Manner → Waiting → List ℕ → LineState
begun_lines manner waiting piece =
    record (new_line_state manner) { pool = begun_state manner waiting piece }

-- a request is made
abbrev pub asks_now : LineRequest → State → State
asks_now wish s =
    record s { stage = Asking wish.request; talk = record s.talk { about = wish.about } }

-- the session enters: it is set up without flags
abbrev pub enters_now : State → State
enters_now s =
    record s {
      stage = Asking (request.Enter s.talk.role 0);
      talk = record s.talk { flags = Some 0; about = topic.Nothing };
    }

-- what a line asks is asked at once, or, where the session isn't set up, once it has entered
abbrev pub sends : Option LineRequest → LineState → LineState
sends None s = s
sends (Some wish) s =
    if is_some s.pool.talk.flags
    then record s { pool = asks_now wish s.pool }
    else record s { pool = enters_now s.pool; next = Some wish }

-- a put that failed ends the session
abbrev pub unless_failed : Option SinkFailed → LineState → LineState → LineState
unless_failed None s t = t
unless_failed (Some cause) s t = record s { pool = ended_by (failed_end cause) s.pool }

-- a line was heard: it is answered, and what it asks is asked
abbrev pub after_line :
    Terms → LineState → List ℕ → List ℕ → Option LineRequest → Put → LineState
after_line terms s line rest wish put =
    let t = record s {
      pool = record s.pool { unmet = rest };
      v1 = (line_reaction terms s.v1 line).after;
    } in
    unless_failed put.fault t (sends wish t)

-- what a session knows once it heard these, one after the other
abbrev pub v1_after : Terms → V1State → List Heard → V1State
v1_after terms v1 [] = v1
v1_after terms v1 (heard ∷ more) = v1_after terms (reaction terms v1 heard).after more

-- the lines that are said to them, those of each apart
abbrev pub lines_said : List Saying → List ℕ
lines_said says = flat_map line_of says

abbrev pub lines_after : Terms → V1State → List Heard → List (List ℕ)
lines_after terms v1 [] = []
lines_after terms v1 (heard ∷ more) =
    lines_said (reaction terms v1 heard).says
    ∷ lines_after terms (reaction terms v1 heard).after more

-- a session that entered asks what waited for that
abbrev pub entered_next : LineRequest → Reply → LineState → LineState
entered_next wish (reply.PoolFull most) s =
    record s { pool = ended_by end.PoolFull s.pool; next = None }
entered_next wish answer s = record s { pool = asks_now wish s.pool; next = None }

abbrev pub after_entering : LineRequest → LineState → ℕ → Outcome Reply BookError → LineState
after_entering wish s front (Faulted cause) =
    record s { pool = ended_by (fault_end cause) s.pool; next = None }
after_entering wish s front (Replied answer) =
    entered_next wish answer (record s { pool = hears s.pool front answer })

-- what the answer of a call told
abbrev pub v1_told : Terms → LineState → Outcome Reply BookError → V1State
v1_told terms s (Faulted cause) = s.v1
v1_told terms s (Replied answer) =
    v1_after terms s.v1 (heard_of s.pool.stage s.pool.talk.about answer)

-- after a call, by whether a request waited for it
abbrev pub after_called : Terms → Option LineRequest → LineState → PoolCall → Put → LineState
after_called terms (Some wish) s call put = after_entering wish s call.front call.outcome
after_called terms None s call put =
    record s {
      pool = after_call s.pool.stage s.pool call put;
      v1 = v1_told terms s call.outcome;
    }
