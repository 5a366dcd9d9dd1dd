use Rattle.std.proofs.Common.{◌≡◌, List, length, take}
use Rattle.pool_history.specs.declared.events.Event.{Event}
use Rattle.ledger_audit.specs.Judging.{in_a_row}
use Rattle.ledger_records.specs.Keeping.{IsLedgerOf}
use Rattle.ledger_resume.proofs.Cut.{CutSoFar}
use Rattle.ledger_resume.proofs.refusing.first_cut_otherwise.Given as goal

abbrev pub invariant-loop-index : goal.invariant-loop-index
invariant-loop-index l = record {
  place_is : l.place ≡ length (in_a_row (take l.index l.records));
  cut : (history : List Event) → IsLedgerOf history (in_a_row l.records) → CutSoFar history (take l.index l.records);
}
