use Rattle.std.proofs.Common.{◌≡◌, ◌+◌, ◌≤◌, List, length}
use Rattle.pool_history.specs.declared.events.Event.{Event}
use Rattle.ledger_audit.specs.Copying.{AreRecordsOf}
use Rattle.ledger_audit.proofs.Cut.{IsCopying}
use Rattle.ledger_audit.proofs.pieces.append_records.Given as goal

abbrev pub invariant-loop-record : goal.invariant-loop-record
invariant-loop-record g l = record {
  short : length l.head ≤ 8;
  counted : l.count + length l.rest ≤ length l.records;
  faults : (g.K.Keeper.seen l.keeper).faults ≡ (g.K.Keeper.seen l.initial.keeper).faults;
  copying : (first : Event) (more : List Event) → AreRecordsOf l.format first more l.records
      → IsCopying l.format first more l.rest l.head l.hash (g.K.Keeper.seen l.initial.keeper).records (g.K.Keeper.seen l.keeper).records l.count;
}

abbrev pub decreases-loop-record : goal.decreases-loop-record
decreases-loop-record g l = length l.rest
