use Rattle.std.proofs.Common.{ap, sym, ◌∙◌}
use Rattle.std.specs.Option.{option_map}
use Rattle.pool_history.specs.Jobs.{Job, future_in}
use Rattle.template_jobs.specs.HeldJobs.{HeldJob}
use Rattle.template_jobs.specs.Lists.{of_template}
use Rattle.template_jobs.specs.Tables.{JobTable, kept_jobs}
use Rattle.template_jobs.proofs.Mapped.{future_in-map, number-map}
use Rattle.template_jobs.proofs.table.Jobs.future_of.Goals as goal

pub returns : goal.returns
returns c =
    c.number_of_template.ensures
    ∙ ap (λ (jobs : Rattle.std.proofs.Common.List HeldJob). option_map (λ (job : HeldJob). job.number) (of_template c.args.template_id jobs)) c.deref.ensures.value
    ∙ sym (number-map (of_template c.args.template_id c.self.inside.future.items))
    ∙ ap (option_map (λ (job : Job). job.number)) (sym (future_in-map c.self.inside.future.items c.args.template_id))
    ∙ ap (λ (table : JobTable). option_map (λ (job : Job). job.number) (future_in (kept_jobs table).future c.args.template_id)) c.self.view_is
