use Rattle.std.proofs.Common.{ap, refl, sym, ◌∙◌}
use Rattle.std.specs.Option.{option_map}
use Rattle.pool_history.specs.Conditions.{found}
use Rattle.pool_history.specs.Jobs.{Job, future_in}
use Rattle.pool_history.specs.declared.refusals.JobError.TheVariants.{UnknownTemplate}
use Rattle.template_jobs.specs.Lists.{of_template}
use Rattle.template_jobs.specs.Tables.{JobTable, kept_jobs}
use Rattle.template_jobs.proofs.Joined.{takes-tip}
use Rattle.template_jobs.proofs.Mapped.{future_in-map, number-map}
use Rattle.template_jobs.proofs.table.Jobs.set_tip.Goals as goal

pub returns-in_default-clause-number : goal.returns-in_default-clause-number
returns-in_default-clause-number c =
    ap (found (UnknownTemplate c.args.tip.now.template_id))
    (sym c.in_default.is ∙ c.make_live.ensures.number
    ∙ sym (number-map (of_template c.args.tip.now.template_id c.self.inside.future.items))
    ∙ ap (option_map (λ (job : Job). job.number)) (sym (future_in-map c.self.inside.future.items c.args.tip.now.template_id))
    ∙ ap (λ (table : JobTable). option_map (λ (job : Job). job.number) (future_in (kept_jobs table).future c.args.tip.now.template_id)) c.self.view_is)

pub returns-clause-number : goal.returns-clause-number
returns-clause-number c =
    ap (found (UnknownTemplate c.args.tip.now.template_id))
    (sym c.in-Some.is ∙ c.make_live.ensures.number
    ∙ sym (number-map (of_template c.args.tip.now.template_id c.self.inside.future.items))
    ∙ ap (option_map (λ (job : Job). job.number)) (sym (future_in-map c.self.inside.future.items c.args.tip.now.template_id))
    ∙ ap (λ (table : JobTable). option_map (λ (job : Job). job.number) (future_in (kept_jobs table).future c.args.tip.now.template_id)) c.self.view_is)

pub returns-clause-takes : goal.returns-clause-takes
returns-clause-takes c script =
    takes-tip script _ c.args.self.now _ c.args.at (record { oldest = c.args.at; newest = c.args.at }) c.args.tip.now c.swap.new.x.items c.swap.new.y.items c.clear-2.new.self.items c.self.view_is refl
    (ap (λ v. v.items) c.swap.ensures.x_after ∙ c.clear.ensures.items)
    (ap (λ v. v.items) c.swap.ensures.y_after ∙ c.in-Some.ensures.live)
    c.clear-2.ensures.items
