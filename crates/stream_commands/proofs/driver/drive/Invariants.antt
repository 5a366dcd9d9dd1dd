use Rattle.std.proofs.Common.{◌≡◌, length}
use Rattle.stream_commands.specs.Between.{IsBelowLimits, IsInRun, turns_left}
use Rattle.stream_commands.proofs.driver.drive.Given as goal

abbrev pub invariant-loop-end : goal.invariant-loop-end
invariant-loop-end g l = record {
  asked : g.C.StreamCommand.asked l.reading.command ≡ l.task;
  ready : g.C.StreamCommand.is_ready l.reading.command;
  below : IsBelowLimits l.reading.tally;
  run : IsInRun (g.C.StreamCommand.has_read l.reading.command) l.reading.tally (g.S.Source.seen l.initial.source).left (g.S.Source.seen l.source).left (g.T.Sink.seen l.initial.sink).held (g.T.Sink.seen l.sink).held;
  reads : (g.S.Source.seen l.source).faults ≡ (g.S.Source.seen l.initial.source).faults;
  writes : (g.T.Sink.seen l.sink).faults ≡ (g.T.Sink.seen l.initial.sink).faults;
  room : length l.buffer ≡ 4096;
}

abbrev pub decreases-loop-end : goal.decreases-loop-end
decreases-loop-end g l = turns_left l.reading.tally
