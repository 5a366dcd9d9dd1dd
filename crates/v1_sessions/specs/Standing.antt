-- Where a session of lines that is served stands (this project's own).
use Rattle.std.specs.Prelude.{◌≡◌, ℕ, None, OnOk, Result}
use Rattle.pool_network.specs.Seen.{LinkSeen}
use Rattle.pool_history.specs.declared.replies.Reply.{Reply}
use Rattle.pool_history.specs.Calls.{PoolCall}
use Rattle.v2_sessions.specs.Standing.{Intake, stage_or}
use Rattle.session_steps.specs.declared.about.About.{About}
use Rattle.session_steps.specs.declared.ends.SessionEnd.{SessionEnd}
use Rattle.session_steps.specs.States.{Stage, State, cursor_behind, entered_after}
use Rattle.session_steps.specs.Talks.{heard}
use Rattle.v1_translate.specs.State.{Terms, V1State}
use Rattle.v1_sessions.specs.declared.conversation.LineConversation.{LineConversation}
use Rattle.v1_sessions.specs.Running.{RunsLines}
use Rattle.v1_sessions.specs.States.{LineState}

-- the state at a stage
abbrev pub pool_at : Stage → Intake → LineConversation → State
pool_at stage intake c = record {
  talk = c.session;
  stage = stage;
  entered = c.entered;
  cursor = c.cursor;
  idle_turns = intake.idle_turns;
  idles = intake.idles;
  bytes = intake.bytes;
  unmet = intake.unmet;
}

abbrev pub line_state : Stage → Intake → LineConversation → LineState
line_state stage intake c =
    record { pool = pool_at stage intake c; v1 = c.v1; next = None }

-- A session goes on from a state to this stage, or ends. What it knows of Stratum V1 is told while
-- it goes on.
pub record LeadsOn {A : Type 0} (worker : A → ℕ) (does : A → PoolCall → A → Type 0)
    (terms : Terms) (from : LineState) (stage : Stage) (intake : Intake) (new : LineConversation)
    (result : Result Unit SessionEnd) (link link' : LinkSeen) (acting acting' : A) : Type 0 where
  pub v1 : V1State
  pub v1_is : OnOk result (v1 ≡ new.v1)
  pub runs : RunsLines worker does terms from
      (record (line_state (stage_or stage new.entered result) intake new) { v1 = v1 })
      link link' acting acting'

-- it hears a reply that came after so many events
abbrev pub conversation_after : LineConversation → ℕ → Reply → LineConversation
conversation_after c front answer =
    record c {
      session = heard c.session answer;
      entered = entered_after c.entered answer;
      cursor = cursor_behind c.cursor front answer;
    }

-- what it asks next is about this
abbrev pub asks_about : About → LineConversation → LineConversation
asks_about about c = record c { session = record c.session { about = about } }
