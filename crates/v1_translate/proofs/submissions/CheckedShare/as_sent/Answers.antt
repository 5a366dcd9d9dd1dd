use Rattle.std.proofs.Common.{arith}
use Rattle.v1_translate.proofs.submissions.CheckedShare.as_sent.Goals as goal

pub returns-clause-small : goal.returns-clause-small
returns-clause-small c =
    rw (← c.self.view_is) (record {
      channel = omega arith;
      sequence = omega arith;
      job = omega arith;
      nonce = omega arith;
      ntime = omega arith;
      version = omega arith;
      extranonce = c.self.invariant;
    })
