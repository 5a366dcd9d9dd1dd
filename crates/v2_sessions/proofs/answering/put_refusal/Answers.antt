use Rattle.std.proofs.Common.{refl, arith}
use Rattle.v2_sessions.proofs.Fitting.{code_fits}
use Rattle.v2_sessions.proofs.answering.put_refusal.Goals as goal

pub frame-requires : goal.frame-requires
frame-requires c = code_fits _ _ _ refl (omega arith) c.code_of.ensures.short c.code_of.utf8
