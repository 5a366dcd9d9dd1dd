use Rattle.std.proofs.Common.{◌≡◌, map, take}
use Rattle.job_declaration.proofs.filling.txids_of.Given as goal

abbrev pub invariant-loop-ids : goal.invariant-loop-ids
invariant-loop-ids l = l.txids.items ≡ map (λ ids. ids.txid) (take l.ids-index l.transactions)
