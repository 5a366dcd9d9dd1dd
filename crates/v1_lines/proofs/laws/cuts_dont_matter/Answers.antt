use Rattle.v1_lines.proofs.Streams.{readers_agree}
use Rattle.v1_lines.proofs.laws.cuts_dont_matter.Goals as goal

pub returns : goal.returns
returns c = readers_agree
