use Rattle.std.proofs.Common.{◌+◌, ◌^◌, ◌≤◌, ℕ, List, ◌++◌, length}
use Rattle.ledger_audit.specs.Auditing.{HasReadBytes, IsBetweenRecords, held_place}
use Rattle.ledger_audit.proofs.Judged.{HasReadUpTo}
use Rattle.ledger_audit.proofs.auditor.Auditor.hear.Given as goal

abbrev pub invariant-loop-rest : goal.invariant-loop-rest
invariant-loop-rest l = record {
  between : IsBetweenRecords l.self;
  room : held_place l.self.records + length l.self.held.items + length l.rest ≤ 2 ^ 40;
  read : (bytes : List ℕ) → HasReadBytes l.initial.self.records l.initial.self.held.items bytes
      → HasReadUpTo l.self.records l.self.held.items l.rest (bytes ++ l.piece);
}

abbrev pub decreases-loop-rest : goal.decreases-loop-rest
decreases-loop-rest l = length l.rest
