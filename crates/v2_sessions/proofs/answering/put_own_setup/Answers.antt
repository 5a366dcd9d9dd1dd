use Rattle.v2_sessions.proofs.Fitting.{own_setup_fits}
use Rattle.v2_sessions.proofs.answering.put_own_setup.Goals as goal

pub frame-requires : goal.frame-requires
frame-requires c = own_setup_fits
