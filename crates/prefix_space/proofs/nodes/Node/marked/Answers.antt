use Rattle.std.proofs.Common.{zero, suc, arith}
use Rattle.prefix_space.proofs.nodes.Node.marked.Goals as goal

pub returns : goal.returns
returns c zero other within below = c.mark.ensures other below
returns c (suc zero) other within below = c.mark-2.ensures other below
returns c (suc (suc zero)) other within below = c.mark-3.ensures other below
returns c (suc (suc (suc zero))) other within below = c.mark-4.ensures other below
returns c (suc (suc (suc (suc at)))) other within below = absurd (omega (arith, within))
