use Rattle.session_steps.specs.declared.ends.SessionEnd.TheVariants as end
use Rattle.v2_sessions.proofs.Standing.{ends_show}
use Rattle.v2_sessions.proofs.laws.bytes_out_shows_bytes.Goals as goal

pub returns : goal.returns
returns c = λ worker manner steps waits comes. ends_show worker manner steps comes.last end.BytesOut waits comes.follows comes.over
