use Rattle.line_turns.specs.Hearing.{intake_at}
use Rattle.line_turns.proofs.hearing.hear_lines.Goals as goal

pub returns-in_default-clause-hears : goal.returns-in_default-clause-hears
returns-in_default-clause-hears g c = record {
  last = intake_at c.args.waiting c.args.piece.now;
  ends_so = g.met.T.LineTalker.hears_lines.starved
      (record { intake = intake_at c.args.waiting c.args.piece.now; talker = c.args.talker.now; link = g.L.Link.seen c.args.link.now });
}
