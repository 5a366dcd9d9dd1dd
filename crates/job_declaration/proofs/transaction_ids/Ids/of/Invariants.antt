use Rattle.std.proofs.Common.{◌≡◌, take}
use Rattle.job_declaration.specs.Filling.{known_of}
use Rattle.job_declaration.proofs.transaction_ids.Ids.of.Given as goal

abbrev pub invariant-loop-ids : goal.invariant-loop-ids
invariant-loop-ids l = l.map.entries ≡ known_of (take l.ids-index l.transactions)
