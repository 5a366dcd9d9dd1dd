-- What a session hears of tokens and declarations in its steps: moves of `declare_rules`, the last
-- first (this project's own).
use Rattle.std.specs.Prelude.{◌≡◌, ℕ, Bool, true, false, Option, None, Some, List, [], ◌∷◌}
use Rattle.pool_base.specs.Calls.{Outcome, Replied, Faulted}
use Rattle.sv2_frames.specs.Framing.{FrameValue}
use Rattle.sv2_messages.specs.Messages.{Message}
use Rattle.pool_history.specs.declared.asking.Request.{Request}
use Rattle.pool_history.specs.declared.asking.Request.TheVariants as request
use Rattle.pool_history.specs.declared.refusals.BookError.{BookError}
use Rattle.pool_history.specs.declared.replies.Reply.{Reply}
use Rattle.job_declaration.specs.Moves.{DeclareMove, AskedToken, Met, Heard}
use Rattle.session_steps.specs.declared.meeting.Step.{Step}
use Rattle.session_steps.specs.declared.meeting.Step.TheVariants as step
use Rattle.session_steps.specs.Meeting.{Brings}
use Rattle.session_steps.specs.Steps.{SessionStep, Framed, Called}

-- a request that a frame asks for: a session hears the reply to it
abbrev pub is_heard : Request → Bool
is_heard (request.Commit checked) = false
is_heard (request.Poll from) = false
is_heard request.Leave = false
is_heard (request.Name channel identity) = false
is_heard _ = true

-- the message that a frame brings is one more move
pub record TellsMessage (past : List DeclareMove) (frame : FrameValue) (next : List DeclareMove) :
    Type 0 where
  pub message : Message
  pub brought : Brings frame message
  pub next_is : next ≡ Met message ∷ past

-- a frame by which a Grant is asked for: a token for any path, or a declaration's
abbrev pub TellsGrant : List DeclareMove → FrameValue → List ℕ → Option (List (List ℕ))
    → List DeclareMove → Type 0
TellsGrant past frame identity None next = next ≡ AskedToken identity ∷ past
TellsGrant past frame identity (Some path) next = TellsMessage past frame next

-- a frame by which anything is asked for
abbrev pub TellsAsked : List DeclareMove → FrameValue → Request → List DeclareMove → Type 0
TellsAsked past frame (request.Grant identity path) next =
    TellsGrant past frame identity path next
TellsAsked past frame asked next = next ≡ past

-- a frame, by what the session made of it
abbrev pub TellsMet : List DeclareMove → FrameValue → Step → List DeclareMove → Type 0
TellsMet past frame (step.Ask asked) next = TellsAsked past frame asked next
TellsMet past frame (step.Say bytes) next = TellsMessage past frame next
TellsMet past frame made next = next ≡ past

-- the moves after a call: one more where its reply is heard
abbrev pub moves_after : Bool → Outcome Reply BookError → List DeclareMove → List DeclareMove
moves_after true (Replied answer) past = Heard answer ∷ past
moves_after true (Faulted cause) past = past
moves_after false outcome past = past

-- what a step adds to the moves before it
abbrev pub TellsMoves : List DeclareMove → SessionStep → List DeclareMove → Type 0
TellsMoves past (Framed met) next = TellsMet past met.frame met.step next
TellsMoves past (Called call put) next = next ≡ moves_after (is_heard call.asked) call.outcome past
TellsMoves past _ next = next ≡ past

-- what steps add, one after the other
abbrev pub HaveMoves : List DeclareMove → List SessionStep → List DeclareMove → Type 0
HaveMoves past [] after = after ≡ past
HaveMoves past (step ∷ steps) after =
    (next : List DeclareMove) × TellsMoves past step next × HaveMoves next steps after
