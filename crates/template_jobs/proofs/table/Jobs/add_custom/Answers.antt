use Rattle.pool_history.specs.Jobs.{FromMiner}
use Rattle.template_jobs.proofs.Joined.{takes-plan}
use Rattle.template_jobs.proofs.table.Jobs.add_custom.Goals as goal

pub returns-clause-takes : goal.returns-clause-takes
returns-clause-takes c =
    takes-plan c.args.script.now 0 c.args.at (FromMiner c.args.custom.now) c.in_ok-plan.plan c.args.self.now c.plan_custom.new.self c.apply.new.self
    c.in_ok-plan.ensures.planned c.plan_custom.ensures.same c.apply.ensures.applied
