use Rattle.std.proofs.Common.{arith, sym, true≢false}
use Rattle.desk.proofs.Missing.{not-found}
use Rattle.desk.proofs.close.has_worker.Goals as goal

pub returns : goal.returns
returns g c = (
  λ no. absurd (true≢false (sym no)),
  λ there. absurd (not-found (λ pass. pass.worker) c.args.passes.now c.args.worker (λ j d less. c.loop-pass.invariant j d (omega arith)) there),
)
