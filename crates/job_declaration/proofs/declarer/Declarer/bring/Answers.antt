use Rattle.std.proofs.Common.{length, ap, arith}
use Rattle.job_declaration.specs.Filled.{parts_of}
use Rattle.job_declaration.proofs.Knowing.{found_few}
use Rattle.job_declaration.proofs.declarer.Declarer.bring.Goals as goal

pub accept-requires : goal.accept-requires
accept-requires c =
    found_few 65536 c.deref.result.now (parts_of c.args.brought.now.transaction_list)
    c.in_ok-transactions.field-0 c.in-Some-2.transactions c.deref-in-Some-2.result.now
    (omega (arith, c.waiting.invariant, ap length c.deref.ensures.value))
    c.in_ok-transactions.ensures c.in-Some-2.is c.deref-in-Some-2.ensures.value
