use Rattle.std.proofs.Common.{take}
use Rattle.ledger_audit.specs.Auditing.{HasReadBytes, IsBetweenRecords}
use Rattle.ledger_audit.specs.Judging.{in_a_row}
use Rattle.ledger_audit.proofs.judging.judge.Given as goal

abbrev pub invariant-loop-piece : goal.invariant-loop-piece
invariant-loop-piece l = record {
  between : IsBetweenRecords l.auditor;
  read : HasReadBytes l.auditor.records l.auditor.held.items (in_a_row (take l.piece-index l.pieces));
}
