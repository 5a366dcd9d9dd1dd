use Rattle.sv2_frames.proofs.Fronts.{frames_agree}
use Rattle.sv2_frames.proofs.framing.no_frame_begins_another.Goals as goal

pub returns : goal.returns
returns c = frames_agree
