-- A session over a link, and over whoever answers its requests (this project's own).
use Rattle.std.specs.Prelude.{◌≡◌, ℕ, Result, OnOk}
use Rattle.pool_network.specs.Seen.{LinkSeen}
use Rattle.pool_history.specs.Calls.{PoolCall}
use Rattle.session_steps.specs.declared.ends.SessionEnd.{SessionEnd}
use Rattle.session_steps.specs.declared.manner.Manner.{Manner}
use Rattle.session_steps.specs.States.{Stage, State, Over, Reading, end_stage, new_state}
use Rattle.v2_sessions.specs.declared.conversation.Conversation.{Conversation}
use Rattle.v2_sessions.specs.Running.{Runs}
use Rattle.v2_sessions.specs.Standing.{Intake, state_at, stage_or}

-- steps that begin a session and come to this end, with all that they did to the link and to who
-- answers
pub record IsSession {A : Type 0} (worker : A → ℕ) (does : A → PoolCall → A → Type 0)
    (manner : Manner) (link link' : LinkSeen) (acting acting' : A) (reason : SessionEnd) : Type 0 where
  pub last : State
  pub over : last.stage ≡ Over reason
  pub runs : Runs worker does (new_state manner) last link link' acting acting'

-- a session that read goes on reading, with what is kept of its intake then, or ends
pub record ReadsOn {A : Type 0} (worker : A → ℕ) (does : A → PoolCall → A → Type 0)
    (before kept : Intake) (old new : Conversation)
    (link link' : LinkSeen) (acting acting' : A) (result : Result Unit SessionEnd) : Type 0 where
  pub intake : Intake
  pub kept_is : OnOk result (intake ≡ kept)
  pub runs : Runs worker does (state_at Reading before old)
      (state_at (stage_or Reading new.entered result) intake new) link link' acting acting'

-- a session goes on from a stage to its end, but for its leaving
pub record Serves {A : Type 0} (worker : A → ℕ) (does : A → PoolCall → A → Type 0)
    (stage : Stage) (before : Intake) (old new : Conversation)
    (link link' : LinkSeen) (acting acting' : A) (reason : SessionEnd) : Type 0 where
  pub intake : Intake
  pub runs : Runs worker does (state_at stage before old)
      (state_at (end_stage new.entered reason) intake new) link link' acting acting'
