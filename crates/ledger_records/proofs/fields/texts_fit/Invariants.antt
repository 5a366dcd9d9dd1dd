use Rattle.std.proofs.Common.{take}
use Rattle.std.specs.List.{AllByRecursion}
use Rattle.ledger_records.specs.WellFormed.{IsText}
use Rattle.ledger_records.proofs.fields.texts_fit.Given as goal

-- the texts so far are short
abbrev pub invariant-loop-text : goal.invariant-loop-text
invariant-loop-text l = AllByRecursion IsText (take l.text-index l.texts)
