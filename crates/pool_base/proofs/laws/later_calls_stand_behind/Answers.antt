use Rattle.pool_base.proofs.Behind.{later-behind}
use Rattle.pool_base.proofs.laws.later_calls_stand_behind.Goals as goal

pub returns : goal.returns
returns c s = later-behind {E = c.row.E.Denot} {Q = c.row.Q.Denot} {R = c.row.R.Denot} {F = c.row.F.Denot}
