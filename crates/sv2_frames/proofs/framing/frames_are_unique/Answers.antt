use Rattle.sv2_frames.proofs.Streams.{frames_unique}
use Rattle.sv2_frames.proofs.framing.frames_are_unique.Goals as goal

pub returns : goal.returns
returns c = frames_unique
