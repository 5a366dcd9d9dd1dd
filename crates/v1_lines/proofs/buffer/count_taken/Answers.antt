use Rattle.std.proofs.Common.{◌-◌, length, min, take, refl, arith}
use Rattle.v1_lines.proofs.Held.{place-line, taken_whole, taken_more}
use Rattle.v1_lines.proofs.buffer.count_taken.Goals as goal

pub returns-in-Some-clause-count : goal.returns-in-Some-clause-count
returns-in-Some-clause-count c =
    let at = place-line _ c.args.held.now c.in-Some.ensures.line in
    taken_whole c.args.held.now c.args.piece.now c.requires (omega (arith, at.0, at.1))

pub returns-in-None-clause-count : goal.returns-in-None-clause-count
returns-in-None-clause-count c =
    let held = c.args.held.now in
    let piece = c.args.piece.now in
    taken_more held piece (take (min (4097 - length held) (length piece)) piece) c.line_len.result c.requires c.in-None.ensures.none refl
    (rw (← c.min.ensures) c.line_len.ensures)
