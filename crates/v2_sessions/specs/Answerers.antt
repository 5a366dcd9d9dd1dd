-- What who answers a session's requests does (this project's own).
use Rattle.std.specs.Prelude.{◌≡◌, ℕ, Result, Ok, Err, List, [], ◌∷◌}
use Rattle.pool_base.specs.Calls.{Outcome, Replied, Faulted}
use Rattle.pool_history.specs.declared.asking.Request.{Request}
use Rattle.pool_history.specs.declared.asking.Request.TheVariants as request
use Rattle.pool_history.specs.declared.refusals.BookError.{BookError}
use Rattle.pool_history.specs.declared.replies.Reply.{Reply}
use Rattle.pool_history.specs.declared.replies.Reply.TheVariants as reply
use Rattle.pool_history.specs.declared.shares.Submission.{Submission}
use Rattle.pool_history.specs.Calls.{PoolCall}
use Rattle.pool_history.specs.Headers.{Briefing, rolled_length}
use Rattle.v2_sessions.specs.declared.acting.Acted.{Acted}

-- how a call ended
abbrev pub outcome_of : Result Reply BookError → Outcome Reply BookError
outcome_of (Ok answer) = Replied answer
outcome_of (Err cause) = Faulted cause

-- a request was answered by a call of this worker
pub record MakesCall {A : Type 0} (worker : A → ℕ) (does : A → PoolCall → A → Type 0) (old : A)
    (asked : Request) (acted : Acted) (new : A) : Type 0 where
  pub call : PoolCall
  pub worker_is : call.worker ≡ worker old
  pub front_is : call.front ≡ acted.front
  pub asked_is : call.asked ≡ asked
  pub outcome_is : call.outcome ≡ outcome_of acted.outcome
  pub done : does old call new
  pub same : worker new ≡ worker old

-- calls one after the other
abbrev pub Acts : {A : Type 0} → (A → PoolCall → A → Type 0) → A → List PoolCall → A → Type 0
Acts does old [] new = new ≡ old
Acts {A} does old (call ∷ calls) new = (middle : A) × does old call middle × Acts does middle calls new

-- a share that is briefed rolls as many bytes as its channel
abbrev pub RollsAsBriefed : Request → Result Reply BookError → Type 0
RollsAsBriefed asked outcome =
    (sub : Submission) (brief : Briefing) → asked ≡ request.Brief sub
    → outcome ≡ Ok (reply.Brief brief)
    → sub.extranonce_len ≡ rolled_length brief.kind brief.lead
