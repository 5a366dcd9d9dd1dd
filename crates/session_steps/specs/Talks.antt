-- What a session knows between two of its steps (this project's own).
use Rattle.std.specs.Prelude.{ℕ, Bool, Option, None}
use Rattle.pool_history.specs.declared.events.Role.{Role}
use Rattle.pool_history.specs.declared.replies.Reply.{Reply}
use Rattle.pool_history.specs.declared.replies.Reply.TheVariants as reply
use Rattle.job_declaration.specs.Declaring as declaring
use Rattle.job_declaration.specs.State.{DeclareState, start}
use Rattle.session_steps.specs.declared.about.About.{About}
use Rattle.session_steps.specs.declared.about.About.TheVariants.{Nothing}

-- who the other side is, whether the pool rolls versions, whether it takes declarations, the flags of
-- the setup (none before it), the session's number, once it has entered, what it asked about last, and
-- what it knows of declarations
pub record Talk : Type 0 where
  pub role : Role
  pub rolling : Bool
  pub declares : Bool
  pub flags : Option ℕ
  pub number : ℕ
  pub about : About
  pub declarations : DeclareState

-- before the first frame
abbrev pub new_talk : Role → Bool → Bool → Talk
new_talk role rolling declares = record {
  role = role;
  rolling = rolling;
  declares = declares;
  flags = None;
  number = 0;
  about = Nothing;
  declarations = start;
}

-- a session learns its number as it enters
abbrev pub number_after : ℕ → Reply → ℕ
number_after number (reply.Entered session) = session
number_after number _ = number

-- and the tokens that it is granted
abbrev pub heard : Talk → Reply → Talk
heard talk answer =
    record talk {
      number = number_after talk.number answer;
      declarations = declaring.heard talk.declarations answer;
    }
