use Rattle.std.proofs.Common.{subst, sym, ℕ, List, arith, rules}
use Rattle.ledger_disk.specs.Moments.{TornWrite}
use Rattle.ledger_disk.proofs.Crashes.{write_part}
use Rattle.ledger_disk.proofs.tearing.tear_write.Goals as goal

pub returns-in-First-clause-torn : goal.returns-in-First-clause-torn
returns-in-First-clause-torn c =
    subst (λ (l : List ℕ). TornWrite c.args.at c.args.count c.args.left.now.items l) (sym c.put_over.ensures.written)
    (write_part _ _ _ _ (search rules) (search rules))

pub returns-in-Junk-clause-torn : goal.returns-in-Junk-clause-torn
returns-in-Junk-clause-torn c =
    subst (λ (l : List ℕ). TornWrite c.args.at c.args.count c.args.left.now.items l) (sym c.put_over-in-Junk.ensures.written)
    (write_part _ _ _ _ (search rules) (search rules))
