use Rattle.std.proofs.Common.{◌≡◌, true, false, not, ap, arith, ◌∙◌}
use Rattle.proxy_rules.specs.Jobs.{is_job, job_told}
use Rattle.proxy_rules.specs.State.{RelayedJob}
use Rattle.proxy_core.proofs.Held.{fail_step, pass_step}
use Rattle.proxy_core.proofs.subscribing.tell_others.Goals as goal
use Rattle.proxy_core.proofs.subscribing.tell_others.Goals.{then-not-is_job+in_ok-tell, else-not-is_job}

pub loop-job-preserved : goal.loop-job-preserved
loop-job-preserved c = elim c.if-not-is_job.branch [
  | then-not-is_job+in_ok-tell w ↦
      let is : is_job c.args.number c.job-item.result ≡ false = cc in
      pass_step c.args.terms.now job_told (λ (job : RelayedJob). not (is_job c.args.number job)) c.args.held.now c.loop-job.job-index c.job-item.result
      c.args.miner.now c.loop-job.miner c.if-not-is_job.miner _ (omega arith) c.job-item.is (ap not is) c.loop-job.invariant w.own_message.ensures
      (w.miner-is ∙ w.in_ok-tell.ensures)
  | else-not-is_job w ↦
      let is : is_job c.args.number c.job-item.result ≡ true = cc in
      fail_step c.args.terms.now job_told (λ (job : RelayedJob). not (is_job c.args.number job)) c.args.held.now c.loop-job.job-index c.job-item.result
      c.args.miner.now c.loop-job.miner c.if-not-is_job.miner (omega arith) c.job-item.is (ap not is) c.loop-job.invariant w.miner-is
]
