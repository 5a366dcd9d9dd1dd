use Rattle.std.proofs.Common.{arith}
use Rattle.v2_sessions.proofs.Fitting.{solution_fits}
use Rattle.v2_sessions.proofs.news.put_solution.Goals as goal

pub frame-requires : goal.frame-requires
frame-requires c = solution_fits _ _ _ _ _ (omega arith) (omega arith) (omega arith) (omega arith) (rw c.bytes.ensures c.requires)
