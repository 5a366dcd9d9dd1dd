use Rattle.std.proofs.Common.{List, ap, sym, ◌∙◌}
use Rattle.std.specs.Option.{option_map}
use Rattle.pool_history.specs.Jobs.{Job, last_of}
use Rattle.template_jobs.specs.HeldJobs.{HeldJob, as_job}
use Rattle.template_jobs.specs.Tables.{JobTable, kept_jobs}
use Rattle.template_jobs.proofs.Mapped.{last_of-map, number-map}
use Rattle.template_jobs.proofs.table.Jobs.newest.Goals as goal

pub returns : goal.returns
returns c =
    c.last_number.ensures
    ∙ ap (λ (jobs : List HeldJob). option_map (λ (job : HeldJob). job.number) (last_of jobs)) c.deref.ensures.value
    ∙ sym (number-map (last_of c.self.inside.live.items))
    ∙ ap (option_map (λ (job : Job). job.number)) (sym (last_of-map as_job c.self.inside.live.items))
    ∙ ap (λ (table : JobTable). option_map (λ (job : Job). job.number) (last_of (kept_jobs table).live)) c.self.view_is
