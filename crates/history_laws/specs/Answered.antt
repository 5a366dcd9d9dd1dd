-- Answers keep a history legal, and credit a share exactly where no condition fails (this project's
-- own).
use Rattle.std.specs.Prelude.{IsTrue, ◌≡◌, ◌↔◌, ◌⊎◌, ℕ, None, Some, Ok, List, [], ◌∷◌, ◌++◌, Bool, true, false, Option, length}
use Rattle.pool_history.specs.declared.asking.Request.{Request}
use Rattle.pool_history.specs.declared.asking.Request.TheVariants as request
use Rattle.pool_history.specs.declared.events.Event.{Event}
use Rattle.pool_history.specs.declared.events.Event.TheVariants as event
use Rattle.pool_history.specs.declared.refusals.Failed.{Failed}
use Rattle.pool_history.specs.declared.refusals.Failed.TheVariants as failed
use Rattle.pool_history.specs.declared.replies.Reply.{Reply}
use Rattle.pool_history.specs.declared.replies.Reply.TheVariants as reply
use Rattle.pool_history.specs.declared.settings.Rules.{Rules}
use Rattle.pool_history.specs.declared.shares.Checked.{Checked}
use Rattle.pool_history.specs.declared.shares.Submission.{Submission}
use Rattle.pool_history.specs.Answering.{Answer}
use Rattle.pool_history.specs.Crediting.{first_failed, admitted_work}
use Rattle.pool_history.specs.Headers.{Briefing, rolled_length}
use Rattle.pool_history.specs.Judging.{Admitted, Share, admission, briefing_of, share_of}
use Rattle.pool_history.specs.Legal.{Legal, may_mine}
use Rattle.pool_history.specs.Sessions.{Entrance, entrance, past_of, present, rules_of}

-- the events of an answer keep a legal history legal
abbrev pub AnswersKeepLegality : Type 0
AnswersKeepLegality =
    (history : List Event) (worker : ℕ) (asked : Request) (events : List Event) (answer : Reply)
    → Legal history → Answer history worker asked events answer
    → Legal (history ++ events)

-- a worker has a present session that may submit shares
pub record MaySubmit (history : List Event) (worker : ℕ) : Type 0 where
  pub rules : Rules
  pub session : ℕ
  pub entered : Entrance
  pub are_rules : rules_of (past_of history) ≡ Some rules
  pub is_present : present (past_of history) worker ≡ Some session
  pub is_entered : entrance (past_of history) session ≡ Some entered
  pub mines : IsTrue (may_mine entered)

-- the event of a share that is booked
abbrev pub credit_of : ℕ → Share → Event
credit_of session share =
    event.Credit session share.channel share.job share.nonce share.ntime share.version
    share.extranonce

-- a share that is to be booked is credited, with its work, exactly where none of the nine
-- conditions fails, and else refused by the first that fails, without event
pub record IsJudged (history : List Event) (worker : ℕ) (may : MaySubmit history worker)
    (share : Share) (events : List Event) (answer : Reply) : Type 0 where
  pub credited : (events ≡ credit_of may.session share ∷ [])
      ↔ (first_failed may.rules (past_of history) may.session share ≡ None)
  pub work : first_failed may.rules (past_of history) may.session share ≡ None
      → (with : Admitted) × (admission may.rules (past_of history) may.session share ≡ Ok with)
      × (answer ≡ reply.Credited (admitted_work with))
  pub refused : (code : Failed)
      → first_failed may.rules (past_of history) may.session share ≡ Some code
      → (events ≡ []) × (answer ≡ reply.Refused code)

-- so a Commit is answered
abbrev pub SharesAreJudged : Type 0
SharesAreJudged =
    (history : List Event) (worker : ℕ) (may : MaySubmit history worker) (checked : Checked)
    (events : List Event) (answer : Reply)
    → Answer history worker (request.Commit checked) events answer
    → IsJudged history worker may (share_of checked.sub) events answer

-- one of the first six conditions
abbrev pub is_early : Failed → Bool
is_early failed.Channel = true
is_early failed.ExtranonceSize = true
is_early failed.Job = true
is_early failed.Stale = true
is_early failed.Version = true
is_early failed.Ntime = true
is_early failed.Difficulty = false
is_early failed.Duplicate = false
is_early failed.Full = false

-- the first condition that fails is one of those
abbrev pub fails_early : Option Failed → Bool
fails_early None = false
fails_early (Some code) = is_early code

-- a share whose header is still to be computed makes no event; it is refused by the first condition
-- that fails where that is one of the first six, and else told what its header is made of
pub record IsBriefed (history : List Event) (worker : ℕ) (may : MaySubmit history worker)
    (share : Share) (events : List Event) (answer : Reply) : Type 0 where
  pub none : events ≡ []
  pub refused : (code : Failed)
      → first_failed may.rules (past_of history) may.session share ≡ Some code
      → IsTrue (is_early code)
      → answer ≡ reply.Refused code
  pub told : fails_early (first_failed may.rules (past_of history) may.session share) ≡ false
      → (with : Admitted) × (admission may.rules (past_of history) may.session share ≡ Ok with)
      × (answer
      ≡ reply.Brief (briefing_of may.rules.pool_script with.channel with.job.source with.tip))

-- so a Brief is answered
abbrev pub SharesAreBriefed : Type 0
SharesAreBriefed =
    (history : List Event) (worker : ℕ) (may : MaySubmit history worker) (sub : Submission)
    (events : List Event) (answer : Reply)
    → Answer history worker (request.Brief sub) events answer
    → IsBriefed history worker may (share_of sub) events answer

-- a worker that may not submit shares is told that it has no session, whether its share is to be
-- booked or briefed
pub record MayNotSubmit (history : List Event) (worker : ℕ) : Type 0 where
  pub never : MaySubmit history worker → ⊥
  pub booking : (checked : Checked) (events : List Event) (answer : Reply)
      → Answer history worker (request.Commit checked) events answer
      → (events ≡ []) × (answer ≡ reply.NoSession)
  pub asking : (sub : Submission) (events : List Event) (answer : Reply)
      → Answer history worker (request.Brief sub) events answer
      → (events ≡ []) × (answer ≡ reply.NoSession)

-- so it is of every other worker
abbrev pub SharesNeedASession : Type 0
SharesNeedASession =
    (history : List Event) (worker : ℕ) → MaySubmit history worker ⊎ MayNotSubmit history worker

-- a Credit was asked for: a worker that may submit shares booked this one in its own session, and
-- no condition failed
pub record IsCommitted (history : List Event) (worker : ℕ) (asked : Request) (session : ℕ)
    (share : Share) : Type 0 where
  pub checked : Checked
  pub is_commit : asked ≡ request.Commit checked
  pub may : MaySubmit history worker
  pub is_its : credit_of session share ≡ credit_of may.session (share_of checked.sub)
  pub none : first_failed may.rules (past_of history) may.session (share_of checked.sub) ≡ None

-- no request but a Commit makes a Credit, and a Commit none but this
abbrev pub CreditsAreCommitted : Type 0
CreditsAreCommitted =
    (history : List Event) (worker : ℕ) (asked : Request) (answer : Reply) (session : ℕ)
    (share : Share)
    → Answer history worker asked (credit_of session share ∷ []) answer
    → IsCommitted history worker asked session share

-- where a submission is answered by a Brief, it has just the bytes that the Brief's kind and lead
-- roll
abbrev pub BriefsRoll : Type 0
BriefsRoll =
    (history : List Event) (worker : ℕ) (sub : Submission) (events : List Event) (brief : Briefing)
    → Answer history worker (request.Brief sub) events (reply.Brief brief)
    → length (share_of sub).extranonce ≡ rolled_length brief.kind brief.lead
