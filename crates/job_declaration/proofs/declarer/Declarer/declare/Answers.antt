use Rattle.std.proofs.Common.{length, ap, arith, ◌∙◌}
use Rattle.job_declaration.specs.Filled.{parts_of}
use Rattle.job_declaration.proofs.Knowing.{found_few, listed_whole}
use Rattle.job_declaration.proofs.declarer.Declarer.declare.Goals as goal

pub accept-requires : goal.accept-requires
accept-requires c =
    found_few 65536 c.deref-2.result.now (parts_of c.of-2.result)
    c.in_ok-transactions.field-0 c.in-Some-2.transactions c.deref-in-Some-2.result.now
    (omega (
      arith,
      c.items.ensures.count,
      ap length (c.deref-2.ensures.value ∙ c.in_ok-listed.ensures)
          ∙ listed_whole c.self.inside.known c.items.result.now,
    ))
    c.in_ok-transactions.ensures c.in-Some-2.is c.deref-in-Some-2.ensures.value
