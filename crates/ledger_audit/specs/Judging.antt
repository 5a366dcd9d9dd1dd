-- The verdict on bytes that are all there, in pieces (this project's own).
use Rattle.std.specs.Prelude.{ℕ, Result, Ok, Err, List, ◌++◌}
use Rattle.std.specs.List.{flat_map}
use Rattle.ledger_audit.specs.declared.auditor.Auditor.{Auditor}
use Rattle.ledger_audit.specs.declared.records.Halt.{Halt}
use Rattle.ledger_audit.specs.declared.records.Halt.TheVariants as halt
use Rattle.ledger_audit.specs.Auditing.{HasReadBytes}
use Rattle.ledger_audit.specs.Verdicts.{IsVerdictOf}

-- the bytes of pieces, one behind the other
abbrev pub in_a_row : List (List ℕ) → List ℕ
in_a_row pieces = flat_map (λ piece. piece) pieces

-- just these bytes were read; or this is their verdict, whatever follows them
abbrev pub GoesOnOrHasVerdict : Auditor → List ℕ → Result Unit Halt → Type 0
GoesOnOrHasVerdict auditor bytes (Ok done) = HasReadBytes auditor.records auditor.held.items bytes
GoesOnOrHasVerdict auditor bytes (Err (halt.Defect v)) =
    (more : List ℕ) → IsVerdictOf (bytes ++ more) v
GoesOnOrHasVerdict auditor bytes (Err halt.Memory) = Unit {0}
