use Rattle.bench.proofs.Numbering.{IsLastOf}
use Rattle.bench.proofs.paths.last_path.Given as goal

abbrev pub invariant-loop-number : goal.invariant-loop-number
invariant-loop-number l = IsLastOf l.fn.ids l.ids l.path.items l.number
