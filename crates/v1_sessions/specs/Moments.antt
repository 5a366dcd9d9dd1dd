-- A session of lines at two moments between which it goes on or ends (this project's own).
use Rattle.std.specs.Prelude.{◌≡◌, ℕ}
use Rattle.pool_network.specs.Seen.{LinkSeen}
use Rattle.pool_history.specs.Calls.{PoolCall}
use Rattle.v2_sessions.specs.Standing.{Intake}
use Rattle.session_steps.specs.declared.ends.SessionEnd.{SessionEnd}
use Rattle.session_steps.specs.States.{Over, Reading, end_stage}
use Rattle.v1_translate.specs.State.{Terms, V1State}
use Rattle.v1_sessions.specs.declared.conversation.LineConversation.{LineConversation}
use Rattle.v1_sessions.specs.Running.{RunsLines}
use Rattle.v1_sessions.specs.States.{LineState}
use Rattle.v1_sessions.specs.Standing.{line_state}

pub record LineMoment (A : Type 0) : Type 0 where
  pub intake : Intake
  pub terms : Terms
  pub conversation : LineConversation
  pub acting : A
  pub link : LinkSeen

abbrev pub moment_at : {A : Type 0} → Intake → Terms → LineConversation → A → LinkSeen → LineMoment A
moment_at intake terms conversation acting link = record {
  intake = intake;
  terms = terms;
  conversation = conversation;
  acting = acting;
  link = link;
}

-- it reads on
pub record GoesOnSo {A : Type 0} (worker : A → ℕ) (does : A → PoolCall → A → Type 0)
    (old new : LineMoment A) : Type 0 where
  pub same : new.terms ≡ old.terms
  pub runs : RunsLines worker does old.terms
      (line_state Reading old.intake old.conversation)
      (line_state Reading new.intake new.conversation) old.link new.link old.acting new.acting

-- or it is over, but for its leaving
pub record EndsSo {A : Type 0} (worker : A → ℕ) (does : A → PoolCall → A → Type 0)
    (old : LineMoment A) (reason : SessionEnd) (new : LineMoment A) : Type 0 where
  pub same : new.terms ≡ old.terms
  pub v1 : V1State
  pub runs : RunsLines worker does old.terms
      (line_state Reading old.intake old.conversation)
      (record (line_state (end_stage new.conversation.entered reason) new.intake
      new.conversation) { v1 = v1 })
      old.link new.link old.acting new.acting

-- and it left
pub record IsServed {A : Type 0} (worker : A → ℕ) (does : A → PoolCall → A → Type 0)
    (old : LineMoment A) (reason : SessionEnd) (acting : A) (link : LinkSeen) : Type 0 where
  pub last : LineState
  pub over : last.pool.stage ≡ Over reason
  pub runs : RunsLines worker does old.terms
      (line_state Reading old.intake old.conversation) last old.link link old.acting acting
