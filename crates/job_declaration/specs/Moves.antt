-- A session over all that it heard of tokens and declarations, the last first.
use Rattle.std.specs.Prelude.{ℕ, Option, List, [], ◌∷◌}
use Rattle.sv2_messages.specs.Messages.{Message}
use Rattle.pool_history.specs.declared.replies.Reply.{Reply}
use Rattle.job_declaration.specs.declared.asked.Given.{Given}
use Rattle.job_declaration.specs.Declaring.{Answer, asking_token, heard, reaction}
use Rattle.job_declaration.specs.Filling.{Known}
use Rattle.job_declaration.specs.State.{DeclareState, Declaration, start}

-- a message that asks for a token for this user was taken, a message of a declaration was taken, or
-- the pool replied
pub data DeclareMove : Type 0 where
  AskedToken : (identity : List ℕ) → DeclareMove
  Met : (message : Message) → DeclareMove
  Heard : (answer : Reply) → DeclareMove

abbrev pub state_after : List DeclareMove → DeclareState
state_after [] = start
state_after (AskedToken identity ∷ past) = asking_token (state_after past) identity
state_after (Met message ∷ past) = (reaction (state_after past) message).after
state_after (Heard answer ∷ past) = heard (state_after past) answer

-- the tokens that were given, the transactions that are known, the declaration that waits
abbrev pub given : List DeclareMove → List Given
given past = (state_after past).given

abbrev pub known : List DeclareMove → Known
known past = (state_after past).known

abbrev pub waiting : List DeclareMove → Option Declaration
waiting past = (state_after past).waiting

-- what a message is answered with after these
abbrev pub declared_answer : List DeclareMove → Message → Answer
declared_answer past message = (reaction (state_after past) message).answer
