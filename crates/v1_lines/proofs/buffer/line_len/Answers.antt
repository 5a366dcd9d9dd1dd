use Rattle.std.proofs.Common.{arith}
use Rattle.v1_lines.proofs.Places.{position-some, position-none}
use Rattle.v1_lines.proofs.buffer.line_len.Goals as goal

pub returns-in-Some : goal.returns-in-Some
returns-in-Some c =
    let found = position-some c.args.bytes.now c.in-Some.place c.in-Some.ensures in
    omega (arith, found.0, found.1)

pub returns-in-None : goal.returns-in-None
returns-in-None c = omega (arith, position-none c.args.bytes.now c.in-None.ensures)
