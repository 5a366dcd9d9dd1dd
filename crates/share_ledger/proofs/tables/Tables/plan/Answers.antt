use Rattle.std.proofs.Common.{sym, ◌∙◌, ◌≡◌, ap, subst}
use Rattle.pool_history.specs.Answering.{step}
use Rattle.pool_history.specs.Sessions.{rules_of}
use Rattle.share_ledger.specs.Planning.{past_in, step_within}
use Rattle.share_ledger.proofs.SessionSteps.{not_entering, step_if}
use Rattle.share_ledger.proofs.tables.Tables.plan.Goals as goal

pub returns-in-Some : goal.returns-in-Some
returns-in-Some c =
    record {
      same = c.plan_within.ensures.same;
      step = step_if c.plan_within.result c.plan_within.new.self (step (past_in c.args.self.now) c.args.worker c.args.request)
          (step_within (rules_of (past_in c.args.self.now)) (past_in c.args.self.now) c.in-Some.session c.args.request)
          (not_entering (rules_of (past_in c.args.self.now)) (past_in c.args.self.now) c.args.worker c.args.request c.in_default.not-Enter
          ∙ c.in-Some.ensures.some) c.plan_within.ensures.step;
    }
