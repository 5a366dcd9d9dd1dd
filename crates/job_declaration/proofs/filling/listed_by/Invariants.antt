use Rattle.std.proofs.Common.{◌≡◌, take}
use Rattle.job_declaration.specs.Filling as rules
use Rattle.job_declaration.proofs.filling.listed_by.Given as goal

abbrev pub invariant-loop-wtxid : goal.invariant-loop-wtxid
invariant-loop-wtxid l =
    l.listed.items ≡ rules.listed_by l.known (take l.wtxid-index l.wtxids)
