use Rattle.std.proofs.Common.{[], refl, subst}
use Rattle.pool_io.specs.Steps.{steps_of}
use Rattle.pool_io.proofs.Stepping.{brought_none}
use Rattle.stream_commands.specs.Ending.{EndsCommand, DecideEnd}
use Rattle.stream_commands.proofs.Driving.{memory_first}
use Rattle.stream_commands.proofs.OneEnd.{one_end}
use Rattle.stream_commands.proofs.driver.drive.Goals as goal

pub loop-end-init : goal.loop-end-init
loop-end-init g c = record {
  asked = c.in-Ok.ensures.asked;
  ready = c.in-Ok.ensures.ready;
  below = c.in-Ok.ensures.below;
  run = record {
    steps = [];
    brought = brought_none (g.S.Source.seen c.args.source.now).left;
    answered = c.in-Ok.ensures.answered (g.T.Sink.seen c.args.sink.now).held;
  };
  reads = refl;
  writes = refl;
  room = refl;
}

pub returns-in_default-clause-ran : goal.returns-in_default-clause-ran
returns-in_default-clause-ran g c =
    memory_first (g.C.StreamCommand.duty c.args.task.now) (g.met.C.StreamCommand.is_sound c.args.task.now) (g.S.Source.seen c.args.source.now).left (g.T.Sink.seen c.args.sink.now).held

pub returns-in-Some-clause-ran : goal.returns-in-Some-clause-ran
returns-in-Some-clause-ran g c =
    let ran = c.in-Some.ensures.goes (g.S.Source.seen c.args.source.now).left (g.T.Sink.seen c.args.sink.now).held c.loop-end.invariant.run in
    subst (λ task. EndsCommand (g.C.StreamCommand.duty task) (g.S.Source.seen c.args.source.now).left (g.S.Source.seen c.turn.new.source).left (g.T.Sink.seen c.args.sink.now).held (g.T.Sink.seen c.turn.new.sink).held c.in-Some.end)
    c.loop-end.invariant.asked ran

pub returns-in-Some-clause-decided : goal.returns-in-Some-clause-decided
returns-in-Some-clause-decided g c = λ told is.
    let ran = c.in-Some.ensures.goes (g.S.Source.seen c.args.source.now).left (g.T.Sink.seen c.args.sink.now).held c.loop-end.invariant.run in
    let task = g.C.StreamCommand.asked c.loop-end.reading.command in
    let decides = one_end (g.C.StreamCommand.duty task) (g.met.C.StreamCommand.is_sound task) (steps_of told) ran.taken ran.given c.in-Some.end (ran.ends told is) in
    subst (λ t. DecideEnd (g.C.StreamCommand.duty t) (steps_of told) c.in-Some.end) c.loop-end.invariant.asked decides
