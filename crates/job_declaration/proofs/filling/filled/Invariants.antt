use Rattle.std.proofs.Common.{◌≡◌, drop}
use Rattle.job_declaration.specs.Filling.{filled}
use Rattle.job_declaration.specs.Filled.{parts_of}
use Rattle.job_declaration.proofs.Entries.{behind}
use Rattle.job_declaration.proofs.filling.filled.Given as goal

abbrev pub invariant-loop-entry : goal.invariant-loop-entry
invariant-loop-entry l =
    filled l.listed (parts_of l.fn.brought)
    ≡ behind l.transactions.items (filled (drop l.entry-index l.listed) (parts_of l.left))
