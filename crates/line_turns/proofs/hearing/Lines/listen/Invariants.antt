use Rattle.std.proofs.Common.{◌≡◌, length}
use Rattle.link_turns.specs.Waits.{turns_left}
use Rattle.line_turns.specs.Listening.{IsListening, intake_of}
use Rattle.line_turns.proofs.hearing.Lines.listen.Given as goal

abbrev pub invariant-loop-end : goal.invariant-loop-end
invariant-loop-end g l = record {
  ready : g.T.LineTalker.ready l.talker;
  listening : IsListening l.self;
  room : length l.buffer ≡ 4096;
  so_far : g.T.LineTalker.goes_on
      (record { intake = intake_of l.initial.self; talker = l.initial.talker; link = g.L.Link.seen l.initial.link })
      (record { intake = intake_of l.self; talker = l.talker; link = g.L.Link.seen l.link });
}

abbrev pub decreases-loop-end : goal.decreases-loop-end
decreases-loop-end g l = turns_left l.self.waiting
