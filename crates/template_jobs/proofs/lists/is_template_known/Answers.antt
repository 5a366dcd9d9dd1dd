use Rattle.std.proofs.Common.{◌||◌, ap, sym, ◌∙◌}
use Rattle.std.specs.List.{list_any}
use Rattle.pool_history.specs.Jobs.{has_template}
use Rattle.template_jobs.specs.HeldJobs.{HeldJob}
use Rattle.template_jobs.proofs.Mapped.{known-both}
use Rattle.template_jobs.proofs.lists.is_template_known.Goals as goal

pub returns-then-has_template_in : goal.returns-then-has_template_in
returns-then-has_template_in c =
    c.if-has_template_in.true
    ∙ ap (λ b. b || list_any (λ (held : HeldJob). has_template c.args.id held.source) c.args.others.now) (sym c.if-has_template_in.true ∙ c.has_template_in.ensures)
    ∙ known-both c.args.id c.args.jobs.now c.args.others.now

pub returns-else-has_template_in : goal.returns-else-has_template_in
returns-else-has_template_in c =
    c.has_template_in-else-has_template_in.ensures
    ∙ ap (λ b. b || list_any (λ (held : HeldJob). has_template c.args.id held.source) c.args.others.now) (sym c.if-has_template_in.false ∙ c.has_template_in.ensures)
    ∙ known-both c.args.id c.args.jobs.now c.args.others.now
