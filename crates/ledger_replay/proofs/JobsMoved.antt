-- What templates and tips do to the tables.
use Rattle.std.proofs.Common.{◌≡◌, ℕ, ◌+◌, Option, None, Some, Ok, Err, List, ◌∷◌, reverse, refl, ap, subst, sym, ◌∙◌}
use Rattle.std.proofs.lemmas.List.{reverse-reverse}
use Rattle.std.specs.List.{AllByRecursion}
use Rattle.std.specs.Option.{option_map}
use Rattle.pool_tables.specs.GrantTables.{OtherEventsLeaveGrants}
use Rattle.pool_history.specs.declared.causes.Cause.TheVariants as cause
use Rattle.pool_history.specs.declared.events.Event.{Event}
use Rattle.pool_history.specs.declared.events.Event.TheVariants as event
use Rattle.pool_history.specs.declared.refusals.JobError.{JobError}
use Rattle.pool_history.specs.declared.refusals.JobError.TheVariants as job
use Rattle.pool_history.specs.declared.templates.TemplateData.{TemplateData}
use Rattle.pool_history.specs.declared.templates.TipData.{TipData}
use Rattle.pool_history.specs.Conditions.{found}
use Rattle.pool_history.specs.Jobs.{Came, Job, Tipped, future_in, job_moves, jobs_of}
use Rattle.pool_history.specs.Legal.{may_feed, refused_as, unfound_as, within}
use Rattle.pool_tables.specs.Tables.{OtherEventsLeaveSessions}
use Rattle.template_jobs.specs.HeldJobs.{HasCoinbase}
use Rattle.pool_history.specs.JobRefusals.{IsRefusal}
use Rattle.template_jobs.specs.Tables.{IsSameButRoom, JobTable, TakesMove, held_jobs, kept_jobs, refusal_of}
use Rattle.template_jobs.specs.Told.{HistoriesAreRead, MovesAreTold, ReadsJobs, WasTold}
use Rattle.ledger_replay.specs.declared.error.ReplayError.{ReplayError}
use Rattle.ledger_replay.specs.Replays.{HasCause, IsJudged, ReplayTables, WereReplayed, template_error_of}
use Rattle.ledger_replay.proofs.Caused.{by_own, fewer-told, one-longer}

-- what is read of the jobs is read of any past that they were told
pub reads : HistoriesAreRead → (past : List Event) (jobs : JobTable) → WasTold jobs (job_moves past) → ReadsJobs past jobs
reads read past jobs told =
    subst (λ p. ReadsJobs p jobs) (reverse-reverse past)
    (read (reverse past) jobs (subst (λ p. WasTold jobs (job_moves p)) (sym (reverse-reverse past)) told))

-- a template that is taken
pub template-taken : (t : ReplayTables) (new : JobTable) (past : List Event) (session : ℕ) (template : TemplateData) (script : List ℕ)
    → OtherEventsLeaveSessions → OtherEventsLeaveGrants → MovesAreTold → HistoriesAreRead
    → WereReplayed t past → None ≡ within may_feed past session None → script ≡ t.rules.pool_script
    → refusal_of script t.jobs template ≡ None → TakesMove script (Came t.events session template) t.jobs new
    → WereReplayed (record t { jobs = new; events = t.events + 1 }) (event.Template session template ∷ past)
template-taken t new past session template script other_sessions other_grants moves read was may is none takes = record {
  legal = (
    was.legal,
    by_own t past one may_feed session _ was refl may
        ∙ ap (refused_as cause.BadTemplate)
        (sym ((reads read past t.jobs was.jobs_are).refusal t.rules.pool_script template) ∙ subst (λ s. refusal_of s t.jobs template ≡ None) is none),
  );
  rules_are = was.rules_are;
  events_are = one-longer t.events one past was.events_are;
  sessions_are = other_sessions t.sessions past one refl was.sessions_are;
  channels_are = fewer-told t past one was;
  jobs_are = subst (λ at. WasTold new (Came at session template ∷ job_moves past)) was.events_are
      (moves script (Came t.events session template) (job_moves past) t.jobs new takes was.jobs_are);
  coinbases = subst (λ s. AllByRecursion (HasCoinbase s) (held_jobs new)) is
      (takes.coinbases (subst (λ s. AllByRecursion (HasCoinbase s) (held_jobs t.jobs)) (sym is) was.coinbases));
  grants_are = other_grants t.grants past one refl was.grants_are;
  booked = was.booked;
} where
  one : Event
  one = event.Template session template

-- jobs that are the same but for room
pub jobs-same : (t : ReplayTables) (new : JobTable) (past : List Event) → WereReplayed t past → IsSameButRoom t.jobs new
    → WereReplayed (record t { jobs = new }) past
jobs-same t new past was same = record {
  legal = was.legal;
  rules_are = was.rules_are;
  events_are = was.events_are;
  sessions_are = was.sessions_are;
  channels_are = was.channels_are;
  jobs_are = ap kept_jobs same ∙ was.jobs_are;
  coinbases = subst (λ jobs. AllByRecursion (HasCoinbase t.rules.pool_script) (held_jobs jobs)) (sym same) was.coinbases;
  grants_are = was.grants_are;
  booked = was.booked;
}

-- a template that is refused
pub template-refused : (t : ReplayTables) (new : JobTable) (past : List Event) (session : ℕ) (template : TemplateData) (script : List ℕ) (refusal : JobError) (made : ReplayError)
    → HistoriesAreRead → WereReplayed t past → None ≡ within may_feed past session None → script ≡ t.rules.pool_script
    → IsRefusal refusal (refusal_of script t.jobs template) → IsSameButRoom t.jobs new → made ≡ template_error_of refusal
    → IsJudged past (event.Template session template) (Err made) (record t { jobs = new })
template-refused t new past session template script refusal made read was may is told same made_is =
    subst (λ e. IsJudged past one (Err e) (record t { jobs = new })) (sym made_is) (by_refusal refusal told) where
      one : Event
      one = event.Template session template

      caused : (r : JobError) → refusal_of script t.jobs template ≡ Some r → HasCause past one cause.BadTemplate
      caused r known =
          by_own t past one may_feed session _ was refl may
          ∙ ap (refused_as cause.BadTemplate)
          (sym ((reads read past t.jobs was.jobs_are).refusal t.rules.pool_script template) ∙ subst (λ s. refusal_of s t.jobs template ≡ Some r) is known)

      by_refusal : (r : JobError) → IsRefusal r (refusal_of script t.jobs template) → IsJudged past one (Err (template_error_of r)) (record t { jobs = new })
      by_refusal job.Memory known = jobs-same t new past was same
      by_refusal (job.TooMany count) known = (caused (job.TooMany count) known, jobs-same t new past was same)
      by_refusal (job.TemplateKnown id) known = (caused (job.TemplateKnown id) known, jobs-same t new past was same)
      by_refusal job.NoTip known = (caused job.NoTip known, jobs-same t new past was same)
      by_refusal (job.UnknownTemplate id) known = (caused (job.UnknownTemplate id) known, jobs-same t new past was same)
      by_refusal (job.Coinbase error) known = (caused (job.Coinbase error) known, jobs-same t new past was same)

-- the future job of a tip's template
tip-found : (there : Option Job) (missing : JobError) (number : ℕ) → Ok number ≡ found missing (option_map (λ job. job.number) there)
    → unfound_as cause.BadTip (found missing there) ≡ None
tip-found None missing number is = cc
tip-found (Some job) missing number is = refl

tip-missing : (there : Option Job) (missing refusal : JobError) → Err refusal ≡ found missing (option_map (λ job. job.number) there)
    → unfound_as cause.BadTip (found missing there) ≡ Some cause.BadTip
tip-missing None missing refusal is = refl
tip-missing (Some job) missing refusal is = cc

-- the future jobs are those of the past
future-told : (t : ReplayTables) (past : List Event) (id : ℕ) → WereReplayed t past → future_in (kept_jobs t.jobs).future id ≡ future_in (jobs_of past).future id
future-told t past id was = ap (λ kept. future_in kept.future id) was.jobs_are

-- a tip that is taken
pub tip-taken : (t : ReplayTables) (new : JobTable) (past : List Event) (session number : ℕ) (tip : TipData)
    → OtherEventsLeaveSessions → OtherEventsLeaveGrants → MovesAreTold
    → WereReplayed t past → None ≡ within may_feed past session None
    → Ok number ≡ found (job.UnknownTemplate tip.template_id) (option_map (λ job. job.number) (future_in (kept_jobs t.jobs).future tip.template_id))
    → ((script : List ℕ) → TakesMove script (Tipped t.events tip) t.jobs new)
    → WereReplayed (record t { jobs = new; events = t.events + 1 }) (event.Tip session tip ∷ past)
tip-taken t new past session number tip other_sessions other_grants moves was may is takes = record {
  legal = (
    was.legal,
    by_own t past one may_feed session _ was refl may
        ∙ tip-found (future_in (jobs_of past).future tip.template_id) (job.UnknownTemplate tip.template_id) number
        (is ∙ ap (λ there. found (job.UnknownTemplate tip.template_id) (option_map (λ job. job.number) there)) (future-told t past tip.template_id was)),
  );
  rules_are = was.rules_are;
  events_are = one-longer t.events one past was.events_are;
  sessions_are = other_sessions t.sessions past one refl was.sessions_are;
  channels_are = fewer-told t past one was;
  jobs_are = subst (λ at. WasTold new (Tipped at tip ∷ job_moves past)) was.events_are
      (moves t.rules.pool_script (Tipped t.events tip) (job_moves past) t.jobs new (takes t.rules.pool_script) was.jobs_are);
  coinbases = (takes t.rules.pool_script).coinbases was.coinbases;
  grants_are = other_grants t.grants past one refl was.grants_are;
  booked = was.booked;
} where
  one : Event
  one = event.Tip session tip

-- a tip that is refused
pub tip-refused : (t : ReplayTables) (new : JobTable) (past : List Event) (session : ℕ) (tip : TipData) (refusal : JobError)
    → WereReplayed t past → None ≡ within may_feed past session None
    → Err refusal ≡ found (job.UnknownTemplate tip.template_id) (option_map (λ job. job.number) (future_in (kept_jobs t.jobs).future tip.template_id))
    → new ≡ t.jobs → HasCause past (event.Tip session tip) cause.BadTip × WereReplayed (record t { jobs = new }) past
tip-refused t new past session tip refusal was may is same = (
  by_own t past (event.Tip session tip) may_feed session _ was refl may
      ∙ tip-missing (future_in (jobs_of past).future tip.template_id) (job.UnknownTemplate tip.template_id) refusal
      (is ∙ ap (λ there. found (job.UnknownTemplate tip.template_id) (option_map (λ job. job.number) there)) (future-told t past tip.template_id was)),
  subst (λ jobs. WereReplayed (record t { jobs = jobs }) past) (sym same) was,
)
