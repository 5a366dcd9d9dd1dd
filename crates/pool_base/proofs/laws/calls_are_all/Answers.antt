use Rattle.pool_base.proofs.Behind.{calls-all}
use Rattle.pool_base.proofs.laws.calls_are_all.Goals as goal

pub returns : goal.returns
returns c s = calls-all {E = c.row.E.Denot} {Q = c.row.Q.Denot} {R = c.row.R.Denot} {F = c.row.F.Denot}
