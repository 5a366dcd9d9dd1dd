use Rattle.v2_sessions.proofs.Fitting.{setup_success_fits}
use Rattle.v2_sessions.proofs.answering.put_setup_success.Goals as goal

pub frame-requires : goal.frame-requires
frame-requires c = setup_success_fits
