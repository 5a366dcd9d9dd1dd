use Rattle.session_steps.proofs.Streams.{met_are_frames}
use Rattle.session_steps.proofs.laws.met_are_frames.Goals as goal

pub returns : goal.returns
returns c = met_are_frames
