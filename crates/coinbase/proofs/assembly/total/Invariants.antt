use Rattle.std.proofs.Common.{◌≡◌, ◌*◌, ◌^◌, ◌≤◌, take}
use Rattle.coinbase.specs.Custom as custom
use Rattle.coinbase.proofs.assembly.total.Given as goal

abbrev pub invariant-loop-output : goal.invariant-loop-output
invariant-loop-output l = (l.total ≡ custom.total (take l.output-index l.outputs)) × (l.total ≤ l.output-index * 2 ^ 64)
