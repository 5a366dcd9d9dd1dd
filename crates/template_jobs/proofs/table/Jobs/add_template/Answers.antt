use Rattle.pool_history.specs.Jobs.{FromTemplate}
use Rattle.template_jobs.proofs.Joined.{takes-plan}
use Rattle.template_jobs.proofs.table.Jobs.add_template.Goals as goal

pub returns-clause-takes : goal.returns-clause-takes
returns-clause-takes c =
    takes-plan c.args.script.now c.args.session c.args.at (FromTemplate c.args.template.now) c.in_ok-plan.plan c.args.self.now c.plan_template.new.self c.apply.new.self
    c.in_ok-plan.ensures.planned c.plan_template.ensures.same c.apply.ensures.applied
