use Rattle.std.proofs.Common.{◌&&◌, List, ap, ap₂, not, sym, ◌∙◌}
use Rattle.std.specs.List.{list_any}
use Rattle.history_laws.specs.KeptJobs.{is_mineable_by, is_others}
use Rattle.template_jobs.specs.Owners.{own_job}
use Rattle.template_jobs.specs.Tables.{JobTable, kept_jobs}
use Rattle.template_jobs.specs.declared.owner.Owner.{Owner}
use Rattle.template_jobs.proofs.Mapped.{any-map}
use Rattle.template_jobs.proofs.table.Jobs.is_mineable.Goals as goal

pub returns-then-is_counted : goal.returns-then-is_counted
returns-then-is_counted c =
    ap₂ (λ a b. a && not b) (sym c.if-is_counted.true ∙ c.is_counted.ensures)
    (c.is_others.ensures
    ∙ ap (λ (owners : List Owner). list_any (λ owner. is_others c.args.channel c.args.id (own_job owner)) owners) c.deref.ensures.value
    ∙ sym (any-map own_job (is_others c.args.channel c.args.id) c.self.inside.owners.items))
    ∙ ap (λ (table : JobTable). is_mineable_by (kept_jobs table) c.args.channel c.args.id) c.self.view_is
