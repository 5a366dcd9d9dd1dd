use Rattle.std.proofs.Common.{◌≡◌, ◌++◌, length}
use Rattle.v1_lines.specs.Lines.{IsLineText}
use Rattle.line_turns.specs.Hearing.{intake_at}
use Rattle.line_turns.proofs.hearing.Lines.bytes.Given as goal

abbrev pub invariant-loop-rest : goal.invariant-loop-rest
invariant-loop-rest g l = record {
  ready : g.T.LineTalker.ready l.talker;
  waiting : l.self.waiting ≡ l.initial.self.waiting;
  text : IsLineText l.self.reader;
  so_far : g.T.LineTalker.goes_on
      (record { intake = intake_at l.initial.self.waiting (l.initial.self.reader ++ l.piece); talker = l.initial.talker; link = g.L.Link.seen l.initial.link })
      (record { intake = intake_at l.initial.self.waiting (l.self.reader ++ l.rest); talker = l.talker; link = g.L.Link.seen l.link });
}

abbrev pub decreases-loop-rest : goal.decreases-loop-rest
decreases-loop-rest g l = length l.rest
