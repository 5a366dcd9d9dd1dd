use Rattle.std.proofs.Common.{◌≡◌, ℕ, List, ◌∷◌, take}
use Rattle.ledger_resume.proofs.Continued.{HasTaken}
use Rattle.ledger_resume.proofs.restored.restore.Given as goal

abbrev pub invariant-loop-record : goal.invariant-loop-record
invariant-loop-record l = record {
  first : List ℕ;
  all : l.records ≡ first ∷ l.later;
  taken : HasTaken l.restored (first ∷ take l.record-index l.later) l.records;
}
