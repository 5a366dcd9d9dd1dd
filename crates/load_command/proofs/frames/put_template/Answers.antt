use Rattle.std.proofs.Common.{arith}
use Rattle.load_command.proofs.Fitting.{template_fits}
use Rattle.load_command.proofs.frames.put_template.Goals as goal

pub frame-requires : goal.frame-requires
frame-requires c = template_fits _ _ (omega arith) c.of.ensures
