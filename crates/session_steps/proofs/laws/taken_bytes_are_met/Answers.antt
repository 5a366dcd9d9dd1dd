use Rattle.session_steps.proofs.Streams.{taken_is_met}
use Rattle.session_steps.proofs.laws.taken_bytes_are_met.Goals as goal

pub returns : goal.returns
returns c = taken_is_met
