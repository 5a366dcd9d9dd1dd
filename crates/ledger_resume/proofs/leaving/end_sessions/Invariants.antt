use Rattle.std.proofs.Common.{◌≡◌}
use Rattle.share_ledger.specs.Books.{KeepsInstead}
use Rattle.share_ledger.specs.Recovery.{KeepsBeginning}
use Rattle.ledger_resume.specs.Leaving.{LeaveUpTo}
use Rattle.ledger_resume.proofs.leaving.end_sessions.Given as goal

abbrev pub invariant-loop-worker : goal.invariant-loop-worker
invariant-loop-worker g l = record {
  left : LeaveUpTo l.worker l.fn.book.events l.book.events;
  kept : KeepsInstead l.fn.book.keeper.records l.book.keeper.records l.book.events;
  begun : KeepsBeginning l.fn.book.keeper l.book.keeper;
  unfailed : l.book.keeper.faults ≡ l.fn.book.keeper.faults;
}
