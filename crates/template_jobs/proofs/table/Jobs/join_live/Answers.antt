use Rattle.std.proofs.Common.{◌+◌, Some, [], ◌∷◌, ◌++◌, ap, ◌∙◌, arith}
use Rattle.pool_history.specs.Jobs.{last}
use Rattle.template_jobs.specs.HeldJobs.{HeldJob}
use Rattle.template_jobs.specs.Plans.{PlannedJob}
use Rattle.template_jobs.specs.Spans.{widened_by}
use Rattle.template_jobs.specs.Tables.{templates_of}
use Rattle.template_jobs.proofs.Joined.{counted-template, few-live, joining, joins-live}
use Rattle.template_jobs.proofs.Rising.{numbered-more}
use Rattle.template_jobs.proofs.Spans.{live-joined, widened-all}
use Rattle.template_jobs.proofs.table.Jobs.join_live.Goals as goal

pub invariant_of-self : goal.invariant_of-self
invariant_of-self c = record {
  rising = c.self.invariant.rising;
  numbered = numbered-more c.self.inside.count c.self.inside.owners.items c.self.invariant.numbered;
  counted = omega (arith, c.self.invariant.counted);
  templates_few = counted-template c.args.self.now c.self.inside.count c.self.inside.templates c.self.inside.owners.items
      (ap templates_of c.self.view_is) c.self.invariant.counted (few-live c.args.self.now c.args.plan.source c.requires.shelf c.requires.fits.few);
  own_few = c.self.invariant.own_few;
  future_few = c.self.invariant.future_few;
  live_few = c.put_last.ensures.few;
  live_within = live-joined c.self.inside.span c.widened-span.result c.plan.inside.at 64 c.self.inside.live.items c.put_last.new.jobs.items c.of-job.result
      c.widened-span.ensures.widens (ap (λ (job : HeldJob). job.live_at) c.of-job.ensures)
      c.put_last.ensures.items c.self.invariant.live_within;
  custom_within = widened-all c.self.inside.span c.widened-span.result c.plan.inside.at c.self.inside.custom.items c.widened-span.ensures.widens c.self.invariant.custom_within;
}

pub returns-clause-applied : goal.returns-clause-applied
returns-clause-applied c script is =
    joins-live script _ _ c.args.plan.session c.args.plan.at c.args.plan.coinbase c.args.self.now c.args.plan.source c.widened-span.result c.put_last.new.jobs.items
    c.self.view_is c.requires.shelf
    (c.widened-span.ensures.value ∙ ap (λ (plan : PlannedJob). widened_by plan.at c.self.inside.span) c.plan.view_is)
    (c.put_last.ensures.items
    ∙ ap (λ (job : HeldJob). last 64 (c.self.inside.live.items ++ job ∷ []))
    (c.of-job.ensures ∙ ap (λ (plan : PlannedJob). joining (c.self.inside.count + 1) plan.session plan.at (Some plan.at) plan.source plan.coinbase) c.plan.view_is)) is
