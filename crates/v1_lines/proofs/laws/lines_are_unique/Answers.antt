use Rattle.v1_lines.proofs.Streams.{lines_unique}
use Rattle.v1_lines.proofs.laws.lines_are_unique.Goals as goal

pub returns : goal.returns
returns c = lines_unique
