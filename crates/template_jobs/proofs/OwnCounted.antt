-- The miners' own jobs that are kept are as many as were brought, so the others are the templates.
use Rattle.std.proofs.Common.{◌≡◌, ◌+◌, ◌-◌, Bool, true, false, List, [], ◌∷◌, length, refl, ap, ◌∙◌, arith}
use Rattle.std.proofs.lemmas.List.{length-append}
use Rattle.history_laws.specs.KeptJobs.{KeptJobs, OwnJob, keeping_template, kept_jobs_of}
use Rattle.history_laws.specs.Limits.{customs}
use Rattle.history_laws.proofs.JobsKept.{kept-move}
use Rattle.history_laws.proofs.Spending.{jobs-counted}
use Rattle.pool_history.specs.declared.events.Event.{Event}
use Rattle.pool_history.specs.declared.events.Event.TheVariants as event
use Rattle.pool_history.specs.Jobs.{Brought, Came, Job, Standing, jobs_of, template_job}
use Rattle.pool_history.specs.Sessions.{templates}

-- a template is no miner's own
own-left : (job : Job) (future : Bool) (kept : KeptJobs) → (keeping_template job future kept).own ≡ kept.own
own-left job true kept = refl
own-left job false kept = refl

pub own-counted : (past : List Event) → length (kept_jobs_of (jobs_of past)).own ≡ customs past
own-counted [] = refl
own-counted (event.Template session template ∷ older) =
    let s : Standing = jobs_of older in
    let job : Job = template_job (length s.all + 1) (length older) session template in
    ap (λ (kept : KeptJobs). length kept.own) (kept-move (Came (length older) session template) s)
    ∙ ap (λ (own : List OwnJob). length own) (own-left job template.future_template (kept_jobs_of s)) ∙ own-counted older
own-counted (event.Custom session custom ∷ older) =
    let s : Standing = jobs_of older in
    let new : OwnJob = record { number = length s.all + 1; channel = custom.channel_id } in
    ap (λ (kept : KeptJobs). length kept.own) (kept-move (Brought (length older) custom) s)
    ∙ length-append (kept_jobs_of s).own (new ∷ []) ∙ ap (λ n. n + 1) (own-counted older)
own-counted (e ∷ older) = own-counted older

-- the jobs that are no miner's own are the templates
pub templates-counted : (past : List Event) → (kept_jobs_of (jobs_of past)).count - length (kept_jobs_of (jobs_of past)).own ≡ templates past
templates-counted past =
    let all : length (jobs_of past).all ≡ templates past + customs past = jobs-counted past in
    let own : length (kept_jobs_of (jobs_of past)).own ≡ customs past = own-counted past in
    omega (arith, all, own)
