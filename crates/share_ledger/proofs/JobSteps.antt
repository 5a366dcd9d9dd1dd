-- Templates, tips and miners' own jobs are planned as the history answers.
use Rattle.std.proofs.Common.{◌≡◌, ◌≢◌, ℕ, ◌+◌, Bool, true, false, None, Some, Option, Result, Ok, Err, List, [], ◌∷◌, length, refl, ap, sym, subst, ◌∙◌}
use Rattle.std.specs.Option.{option_map}
use Rattle.std.specs.Prelude.{is_some, IsTrue}
use Rattle.pool_history.specs.declared.asking.Request.{Request}
use Rattle.pool_history.specs.declared.asking.Request.TheVariants as request
use Rattle.pool_history.specs.declared.events.Event.{Event}
use Rattle.pool_history.specs.declared.events.Event.TheVariants as event
use Rattle.pool_history.specs.declared.refusals.JobError.{JobError}
use Rattle.pool_history.specs.declared.refusals.JobError.TheVariants as job_error
use Rattle.pool_history.specs.declared.replies.Reply.TheVariants as reply
use Rattle.pool_history.specs.declared.settings.Rules.{Rules}
use Rattle.pool_history.specs.declared.templates.TemplateData.{TemplateData}
use Rattle.pool_history.specs.declared.templates.TipData.{TipData}
use Rattle.pool_history.specs.Answering.{Effect, step_in, unless_refused, with_event, with_found, without_event}
use Rattle.pool_history.specs.Conditions.{found}
use Rattle.pool_history.specs.Jobs.{FromTemplate, Job, future_in, jobs_of}
use Rattle.pool_history.specs.Refusing.{template_refusal, tippable}
use Rattle.pool_history.specs.Sessions.{rules_of, script_of}
use Rattle.history_laws.proofs.Legalities.{some-same}
use Rattle.template_jobs.specs.Plans.{IsPlannedAs, PlannedJob}
use Rattle.pool_history.specs.JobRefusals.{IsRefusal}
use Rattle.template_jobs.specs.Tables.{JobTable, Fits, kept_jobs, refusal_of}
use Rattle.template_jobs.specs.Told.{HistoriesAreRead, ReadsJobs}
use Rattle.share_ledger.specs.declared.planning.Change.TheVariants as change
use Rattle.share_ledger.specs.declared.planning.Step.TheVariants as step
use Rattle.share_ledger.specs.Planning.{IsStepWithin, OffersJob, TipsJob, past_in}
use Rattle.share_ledger.specs.Tables.{AreTables, LedgerTables}
use Rattle.share_ledger.proofs.Within.{counted_jobs, future_same, rules_same, script_same, within}

-- a refusal that isn't a lack of memory is the one that was told
pub told_refusal : (error : JobError) (told : Option JobError) → error ≢ job_error.Memory → IsRefusal error told → told ≡ Some error
told_refusal job_error.Memory told not is = absurd (not refl)
told_refusal (job_error.TooMany count) told not is = is
told_refusal (job_error.TemplateKnown id) told not is = is
told_refusal job_error.NoTip told not is = is
told_refusal (job_error.UnknownTemplate id) told not is = is
told_refusal (job_error.Coinbase error) told not is = is

module _ (old : LedgerTables) (is : AreTables old) (session : ℕ) (read : HistoriesAreRead) (rules : Rules) (are : rules_of (past_in old) ≡ Some rules)
    (script : List ℕ) (scripted : script ≡ rules.pool_script) where
  reads : ReadsJobs (past_in old) old.jobs
  reads = read old.history.events old.jobs is.told.jobs_are

  script_is : script ≡ is.rules.pool_script
  script_is = scripted ∙ ap (λ (r : Rules). r.pool_script) (sym (rules_same old is rules are))

  refused_so : (template : TemplateData) (told : Option JobError) → refusal_of script old.jobs template ≡ told
      → template_refusal is.rules.pool_script (past_in old) template ≡ told
  refused_so template told h =
      sym (reads.refusal is.rules.pool_script template) ∙ ap (λ s. refusal_of s old.jobs template) (sym script_is) ∙ h

  abbrev effect_of : TemplateData → Option JobError → Effect
  effect_of template told =
      unless_refused reply.TemplateRefused told
      (with_event (event.Template session template) (reply.Job (length (jobs_of (past_in old)).all + 1)))

  pub template-made : (jobs : JobTable) (template : TemplateData) (plan : PlannedJob) (number at : ℕ) → at ≡ length old.history.events
      → refusal_of script old.jobs template ≡ None → number ≡ old.jobs.count + 1
      → IsPlannedAs session at (FromTemplate template) script plan → Fits jobs plan
      → IsStepWithin old (record old { jobs = jobs }) session (request.Template template)
      (step.Move (record { event = event.Template session template; change = change.Template plan; reply = reply.Job number }))
  template-made jobs template plan number at placed none counted planned fits =
      within old is session (request.Template template) (record old { jobs = jobs }) (step.Move (record { event = event.Template session template; change = change.Template plan; reply = reply.Job number })) (
        ap (effect_of template) (refused_so template None none)
            ∙ ap (λ n. with_event (event.Template session template) (reply.Job n)) (sym (counted ∙ ap (λ n. n + 1) (counted_jobs old is))),
        record {
          session = session;
          template = template;
          is = refl;
          planned = subst (λ s. IsPlannedAs session (length old.history.events) (FromTemplate template) s plan)
              (script_is ∙ sym (script_same old is)) (subst (λ n. IsPlannedAs session n (FromTemplate template) script plan) placed planned);
          fits = fits;
        },
      )

  pub template-refused : (jobs : JobTable) (template : TemplateData) (error : JobError) → error ≢ job_error.Memory
      → IsRefusal error (refusal_of script old.jobs template)
      → IsStepWithin old (record old { jobs = jobs }) session (request.Template template) (step.Answer (reply.TemplateRefused error))
  template-refused jobs template error not refused =
      within old is session (request.Template template) (record old { jobs = jobs }) (step.Answer (reply.TemplateRefused error))
      (ap (effect_of template) (refused_so template (Some error) (told_refusal error _ not refused)))

module _ (old : LedgerTables) (is : AreTables old) (session : ℕ) (tip : TipData) where
  abbrev effect_by : Option Job → Effect
  effect_by o =
      with_found reply.TemplateRefused (λ (job : Job). with_event (event.Tip session tip) (reply.Job job.number))
      (found (job_error.UnknownTemplate tip.template_id) o)

  by_tables : step_in is.rules (past_in old) session (request.Tip tip) ≡ effect_by (future_in (kept_jobs old.jobs).future tip.template_id)
  by_tables = ap (λ jobs. effect_by (future_in jobs tip.template_id)) (sym (future_same old is))

  map-found : (o : Option Job) (number : ℕ) → Some number ≡ option_map (λ (job : Job). job.number) o → (job : Job) × (o ≡ Some job) × (job.number ≡ number)
  map-found None number h = absurd cc
  map-found (Some job) number h = (job, refl, some-same (sym h))

  map-none : (o : Option Job) → None ≡ option_map (λ (job : Job). job.number) o → o ≡ None
  map-none None h = refl
  map-none (Some job) h = absurd cc

  pub tip-made : (number : ℕ) → Some number ≡ option_map (λ (job : Job). job.number) (future_in (kept_jobs old.jobs).future tip.template_id)
      → IsStepWithin old old session (request.Tip tip)
      (step.Move (record { event = event.Tip session tip; change = change.Tip tip; reply = reply.Job number }))
  tip-made number h =
      let f = map-found (future_in (kept_jobs old.jobs).future tip.template_id) number h in
      within old is session (request.Tip tip) old (step.Move (record { event = event.Tip session tip; change = change.Tip tip; reply = reply.Job number })) (
        by_tables ∙ ap effect_by f.1 ∙ ap (λ n. with_event (event.Tip session tip) (reply.Job n)) f.2,
        record {
          session = session;
          is = refl;
          found = subst (λ o. IsTrue (is_some o)) (sym f.1) refl;
        },
      )

  pub tip-refused : None ≡ option_map (λ (job : Job). job.number) (future_in (kept_jobs old.jobs).future tip.template_id)
      → IsStepWithin old old session (request.Tip tip) (step.Answer (reply.TemplateRefused (job_error.UnknownTemplate tip.template_id)))
  tip-refused h =
      within old is session (request.Tip tip) old (step.Answer (reply.TemplateRefused (job_error.UnknownTemplate tip.template_id)))
      (by_tables ∙ ap effect_by (map-none (future_in (kept_jobs old.jobs).future tip.template_id) h))
