use Rattle.std.proofs.Common.{◌≡◌, true, false, arith, ◌∙◌}
use Rattle.proxy_rules.specs.Jobs.{future_told, is_job}
use Rattle.proxy_core.proofs.Held.{fail_step, pass_step}
use Rattle.proxy_core.proofs.subscribing.tell_future.Goals as goal
use Rattle.proxy_core.proofs.subscribing.tell_future.Goals.{then-is_job+in_ok-tell, else-is_job}

pub loop-job-preserved : goal.loop-job-preserved
loop-job-preserved c = elim c.if-is_job.branch [
  | then-is_job+in_ok-tell w ↦
      let passes : is_job c.args.number c.job-item.result ≡ true = cc in
      pass_step c.args.terms.now future_told (is_job c.args.number) c.args.held.now c.loop-job.job-index c.job-item.result c.args.miner.now c.loop-job.miner
      c.if-is_job.miner _ (omega arith) c.job-item.is passes c.loop-job.invariant w.message.ensures (w.miner-is ∙ w.in_ok-tell.ensures)
  | else-is_job w ↦
      let fails : is_job c.args.number c.job-item.result ≡ false = cc in
      fail_step c.args.terms.now future_told (is_job c.args.number) c.args.held.now c.loop-job.job-index c.job-item.result c.args.miner.now c.loop-job.miner
      c.if-is_job.miner (omega arith) c.job-item.is fails c.loop-job.invariant w.miner-is
]
