use Rattle.std.proofs.Common.{◌+◌, None, [], ◌∷◌, ◌++◌, ap, ◌∙◌, arith}
use Rattle.pool_history.specs.Jobs.{last}
use Rattle.template_jobs.specs.HeldJobs.{HeldJob}
use Rattle.template_jobs.specs.Plans.{PlannedJob}
use Rattle.template_jobs.specs.Tables.{templates_of}
use Rattle.template_jobs.proofs.Joined.{counted-template, few-future, joining, joins-future}
use Rattle.template_jobs.proofs.Rising.{numbered-more}
use Rattle.template_jobs.proofs.table.Jobs.join_future.Goals as goal

pub invariant_of-self : goal.invariant_of-self
invariant_of-self c = record {
  rising = c.self.invariant.rising;
  numbered = numbered-more c.self.inside.count c.self.inside.owners.items c.self.invariant.numbered;
  counted = omega (arith, c.self.invariant.counted);
  templates_few = counted-template c.args.self.now c.self.inside.count c.self.inside.templates c.self.inside.owners.items
      (ap templates_of c.self.view_is) c.self.invariant.counted (few-future c.args.self.now c.args.plan.source c.requires.shelf c.requires.fits.few);
  own_few = c.self.invariant.own_few;
  future_few = c.put_last.ensures.few;
  live_few = c.self.invariant.live_few;
  live_within = c.self.invariant.live_within;
  custom_within = c.self.invariant.custom_within;
}

pub returns-clause-applied : goal.returns-clause-applied
returns-clause-applied c script is =
    joins-future script _ _ c.args.plan.session c.args.plan.at c.args.plan.coinbase c.args.self.now c.args.plan.source c.put_last.new.jobs.items
    c.self.view_is c.requires.shelf
    (c.put_last.ensures.items
    ∙ ap (λ (job : HeldJob). last 16 (c.self.inside.future.items ++ job ∷ []))
    (c.of-job.ensures ∙ ap (λ (plan : PlannedJob). joining (c.self.inside.count + 1) plan.session plan.at None plan.source plan.coinbase) c.plan.view_is)) is
