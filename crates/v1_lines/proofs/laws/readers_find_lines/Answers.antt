use Rattle.v1_lines.proofs.Streams.{readers_find}
use Rattle.v1_lines.proofs.laws.readers_find_lines.Goals as goal

pub returns : goal.returns
returns c = readers_find
