use Rattle.v1_sessions.proofs.Whole.{taken_is_heard}
use Rattle.v1_sessions.proofs.laws.taken_bytes_are_heard.Goals as goal

pub returns : goal.returns
returns c = taken_is_heard
