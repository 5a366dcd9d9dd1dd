use Rattle.std.proofs.Common.{sym, append-nil}
use Rattle.load_command.specs.Frames.{openings_frames}
use Rattle.load_command.proofs.Steps.{opened-more}
use Rattle.load_command.proofs.generated.put_openings.Goals as goal

pub loop-number-init : goal.loop-number-init
unfolding openings_frames
loop-number-init c = sym (append-nil _)

pub loop-number-preserved : goal.loop-number-preserved
loop-number-preserved c = opened-more _ _ _ c.loop-number.number c.loop-number.invariant c.in_ok-put_opening.ensures
