use Rattle.v2_sessions.proofs.Fitting.{constraints_fits}
use Rattle.v2_sessions.proofs.answering.put_constraints.Goals as goal

pub frame-requires : goal.frame-requires
frame-requires c = constraints_fits
