use Rattle.pool_base.proofs.Behind.{callers-go_on}
use Rattle.pool_base.proofs.laws.callers_go_on.Goals as goal

pub returns : goal.returns
returns c s = callers-go_on {E = c.row.E.Denot} {Q = c.row.Q.Denot} {R = c.row.R.Denot} {F = c.row.F.Denot}
