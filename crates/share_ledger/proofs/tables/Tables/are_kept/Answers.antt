use Rattle.std.proofs.Common.{subst}
use Rattle.history_laws.specs.Legality.{Starts}
use Rattle.share_ledger.specs.Tables.{LedgerTables}
use Rattle.share_ledger.proofs.Started.{begins}
use Rattle.share_ledger.proofs.tables.Tables.are_kept.Goals as goal

pub returns-clause-begin : goal.returns-clause-begin
returns-clause-begin c =
    subst (λ (t : LedgerTables). Starts t.history.events) c.self.view_is (begins _ c.self.invariant)
