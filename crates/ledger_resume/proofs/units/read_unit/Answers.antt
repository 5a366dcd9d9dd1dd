use Rattle.std.proofs.Common.{◌∙◌}
use Rattle.ledger_resume.proofs.OneUnit.{no_unit}
use Rattle.ledger_resume.proofs.units.read_unit.Goals as goal

pub returns-else-is_hash-clause-none : goal.returns-else-is_hash-clause-none
returns-else-is_hash-clause-none c =
    no_unit c.args.hash.now c.args.bytes.now c.in-Ok.read.0 c.in-Ok.read.1 c.in-Ok.ensures.found c.chain-next.result
    (rw c.split_at.ensures.front at c.chain-next.ensures)
    (λ same. let h = c.is_hash.ensures.1 (c.split_at.ensures.back ∙ same) in cc) c.in-Ok.ensures.only
