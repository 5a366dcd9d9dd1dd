use Rattle.std.proofs.Common.{length, arith}
use Rattle.v1_lines.proofs.Streams.{lines_found}
use Rattle.v1_lines.proofs.laws.lines_are_found.Goals as goal

pub returns : goal.returns
returns c = λ stream. lines_found (length stream) stream (omega arith)
