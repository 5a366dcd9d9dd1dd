-- What frames of declarations are answered with, and the replies to Grants for them (this project's
-- own).
use Rattle.std.specs.Prelude.{◌≡◌, ℕ, Bool, true, false, Some, List, []}
use Rattle.sv2_frames.specs.Framing.{FrameValue}
use Rattle.sv2_messages.specs.Messages.{Message}
use Rattle.pool_history.specs.declared.asking.Request.TheVariants as request
use Rattle.pool_history.specs.declared.replies.Reply.{Reply}
use Rattle.pool_history.specs.declared.replies.Reply.TheVariants as reply
use Rattle.job_declaration.specs.declared.asked.Asked.TheVariants.{Declared}
use Rattle.job_declaration.specs.Declaring.{Answer, Says, AsksGrant, reply_frames}
use Rattle.job_declaration.specs.Moves.{DeclareMove, declared_answer, state_after}
use Rattle.session_steps.specs.declared.manner.Manner.{Manner}
use Rattle.session_steps.specs.declared.meeting.Step.{Step}
use Rattle.session_steps.specs.declared.meeting.Step.TheVariants as step
use Rattle.session_steps.specs.Meeting.{Brings}
use Rattle.session_steps.specs.States.{Put, IsPutOf, State, new_state}
use Rattle.session_steps.specs.Steps.{Follows, Met, SessionStep, bytes_of_frames}
use Rattle.session_steps.specs.Taken.{is_declared_kind, is_taken}
use Rattle.session_steps.specs.Talks.{Talk}
use Rattle.pool_promises.specs.Moves.{HaveMoves}

-- what a session makes of a frame is this answer: its frames are said, or its Grant is asked for
abbrev pub AnswersBy : Answer → Step → Type 0
AnswersBy (Says frames) made = made ≡ step.Say (bytes_of_frames frames)
AnswersBy (AsksGrant identity path) made = made ≡ step.Ask (request.Grant identity (Some path))

-- a frame is taken, and its message is answered as the rules say after these moves
pub record AnswersMessage (talk : Talk) (past : List DeclareMove) (frame : FrameValue)
    (made : Step) : Type 0 where
  pub taken : is_taken talk frame ≡ true
  pub message : Message
  pub brought : Brings frame message
  pub answers : AnswersBy (declared_answer past message) made

-- a frame is taken, and brings no message
pub record FindsNoMessage (talk : Talk) (frame : FrameValue) : Type 0 where
  pub taken : is_taken talk frame ≡ true
  pub none : (message : Message) → Brings frame message → ⊥

-- what a session makes of a frame that declares a job, or brings transactions
abbrev pub AnswersDeclared : Talk → List DeclareMove → FrameValue → Step → Type 0
AnswersDeclared talk past frame step.Ignore = is_taken talk frame ≡ false
AnswersDeclared talk past frame (step.BadMessage kind) = FindsNoMessage talk frame
AnswersDeclared talk past frame made = AnswersMessage talk past frame made

-- After these steps, at a state to which they lead, a frame is met: what is known there of
-- declarations is what the rules make of the steps' moves, and by them a frame of one is answered.
pub record MeetsByRules (worker : ℕ) (manner : Manner) (before : List SessionStep) (met : Met) :
    Type 0 where
  pub past : List DeclareMove
  pub moves : HaveMoves [] before past
  pub s : State
  pub follows : Follows worker (new_state manner) before s
  pub knows : s.talk.declarations ≡ state_after past
  pub answers : is_declared_kind met.frame.kind ≡ true
      → AnswersDeclared s.talk past met.frame met.step

-- a reply that a Grant may have
abbrev pub answers_grant : Reply → Bool
answers_grant (reply.Granted number script) = true
answers_grant (reply.GrantRefused error) = true
answers_grant reply.NoSession = true
answers_grant _ = false

-- after these steps a Grant was asked for a declaration, and what was put of its reply is what the
-- rules answer with after the steps' moves
pub record IsAnsweredByRules (before : List SessionStep) (answer : Reply) (put : Put) :
    Type 0 where
  pub past : List DeclareMove
  pub moves : HaveMoves [] before past
  pub request_id : ℕ
  pub asked_is : (state_after past).asked ≡ Declared request_id
  pub put_is : IsPutOf (bytes_of_frames (reply_frames (state_after past).asked answer)) put
