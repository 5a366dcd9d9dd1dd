use Rattle.share_ledger.proofs.Started.{first-there}
use Rattle.share_ledger.proofs.tables.Tables.first.Goals as goal

pub unreachable-requires : goal.unreachable-requires
unreachable-requires c =
    first-there _ c.self.invariant c.in-None.ensures
