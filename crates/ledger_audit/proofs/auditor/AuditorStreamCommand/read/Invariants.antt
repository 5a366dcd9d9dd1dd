use Rattle.std.proofs.Common.{◌≡◌, ◌+◌, ◌^◌, ◌≤◌, ℕ, List, ◌++◌, length}
use Rattle.ledger_audit.specs.Auditing.{HasAudited, IsBetweenRecords, held_place}
use Rattle.ledger_audit.proofs.auditor.AuditorStreamCommand.read.Given as goal

abbrev pub invariant-loop-rest : goal.invariant-loop-rest
invariant-loop-rest l = record {
  between : IsBetweenRecords l.self;
  room : held_place l.self.records + length l.self.held.items + length l.rest ≤ 2 ^ 40;
  read : (front : List ℕ) × (front ++ l.rest ≡ l.piece) × ((bytes given : List ℕ) → length (bytes ++ l.piece) ≤ 2 ^ 40
      → HasAudited l.initial.self bytes (given ++ l.initial.text.items) → HasAudited l.self (bytes ++ front) (given ++ l.text.items));
}

abbrev pub decreases-loop-rest : goal.decreases-loop-rest
decreases-loop-rest l = length l.rest
