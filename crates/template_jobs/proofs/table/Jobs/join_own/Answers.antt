use Rattle.std.proofs.Common.{◌≡◌, ◌+◌, ◌<◌, ◌^◌, Some, [], ◌∷◌, ◌++◌, ap, length, map, ◌∙◌, arith, length-append}
use Rattle.std.proofs.lemmas.List.{length-map, map-append}
use Rattle.template_jobs.specs.HeldJobs.{HeldJob}
use Rattle.template_jobs.specs.Lists.{without_surplus}
use Rattle.template_jobs.specs.Owners.{own_job}
use Rattle.template_jobs.specs.Plans.{PlannedJob}
use Rattle.template_jobs.specs.Spans.{widened_by}
use Rattle.template_jobs.specs.Tables.{JobTable}
use Rattle.template_jobs.specs.declared.owner.Owner.{Owner}
use Rattle.template_jobs.proofs.Joined.{few-own, joining, joins-own}
use Rattle.template_jobs.proofs.Rising.{numbered-next, rising-next}
use Rattle.template_jobs.proofs.Spans.{own-joined, widened-all}
use Rattle.template_jobs.proofs.table.Jobs.join_own.Goals as goal

pub invariant_of-self : goal.invariant_of-self
invariant_of-self c =
    let one : Owner = record { job = c.self.inside.count + 1; channel = c.args.channel } in
    let long : length c.put_owner.new.owners.items ≡ length c.self.inside.owners.items + 1 =
    ap length c.put_owner.ensures ∙ length-append c.self.inside.owners.items (one ∷ []) in
    let few : length c.args.self.now.own < 2 ^ 18 = few-own c.args.self.now c.args.plan.source c.args.channel c.requires.shelf c.requires.fits.few in
    let seen : length (map own_job c.self.inside.owners.items) ≡ length c.args.self.now.own = ap (λ (table : JobTable). length table.own) c.self.view_is in
    record {
      rising = rising-next c.self.inside.count c.args.channel c.self.inside.owners.items c.put_owner.new.owners.items c.put_owner.ensures
          c.self.invariant.numbered c.self.invariant.rising;
      numbered = numbered-next c.self.inside.count c.args.channel c.self.inside.owners.items c.put_owner.new.owners.items c.put_owner.ensures
          c.self.invariant.numbered;
      counted = omega (arith, c.self.invariant.counted, long);
      templates_few = c.self.invariant.templates_few;
      own_few = omega (arith, long, few, seen, length-map c.self.inside.owners.items own_job);
      future_few = c.self.invariant.future_few;
      live_few = c.self.invariant.live_few;
      live_within = widened-all c.self.inside.span c.widened-span.result c.plan.inside.at c.self.inside.live.items c.widened-span.ensures.widens c.self.invariant.live_within;
      custom_within = own-joined c.self.inside.span c.widened-span.result c.plan.inside.at c.args.channel c.self.inside.custom.items c.put_own.new.jobs.items c.of-job.result
          c.widened-span.ensures.widens (ap (λ (job : HeldJob). job.live_at) c.of-job.ensures)
          c.put_own.ensures c.self.invariant.custom_within;
    }

pub returns-clause-applied : goal.returns-clause-applied
returns-clause-applied c script is =
    joins-own script _ _ c.args.plan.session c.args.plan.at c.args.plan.coinbase c.args.self.now c.args.channel c.args.plan.source c.widened-span.result c.put_own.new.jobs.items
    (map own_job c.put_owner.new.owners.items) c.self.view_is c.requires.shelf
    (c.widened-span.ensures.value ∙ ap (λ (plan : PlannedJob). widened_by plan.at c.self.inside.span) c.plan.view_is)
    (c.put_own.ensures
    ∙ ap (λ (job : HeldJob). without_surplus c.args.channel (c.self.inside.custom.items ++ job ∷ []))
    (c.of-job.ensures ∙ ap (λ (plan : PlannedJob). joining (c.self.inside.count + 1) 0 plan.at (Some plan.at) plan.source plan.coinbase) c.plan.view_is))
    (ap (map own_job) c.put_owner.ensures ∙ map-append own_job c.self.inside.owners.items (record { job = c.self.inside.count + 1; channel = c.args.channel } ∷ [])) is
