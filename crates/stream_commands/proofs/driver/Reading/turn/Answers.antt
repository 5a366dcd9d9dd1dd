use Rattle.std.proofs.lemmas.List.{take-append-le}
use Rattle.std.proofs.Common.{drop}
use Rattle.pool_io.proofs.Stepping.{brought_bytes, brought_idle}
use Rattle.stream_commands.proofs.Driving.{turns_on, turns_to_end, turns_to_fault}
use Rattle.stream_commands.proofs.driver.Reading.turn.Goals as goal

pub returns-in-Bytes-clause-goes : goal.returns-in-Bytes-clause-goes
returns-in-Bytes-clause-goes g c = λ turns before run.
    let within = c.in-Bytes.ensures.bound.1 in
    let same = take-append-le c.in-Bytes.count c.take.new.buffer (drop c.min-room.result c.args.buffer.now) within in
    let goes = rw same at (c.piece.ensures.goes before run.steps run.answered) in
    turns_on _ (g.C.StreamCommand.has_read c.piece.new.self.command) c.piece.new.self.tally turns (g.S.Source.seen c.take.new.self).left before (g.T.Sink.seen c.piece.new.sink).held _ c.piece.result
    (brought_bytes turns _ _ run.steps c.in-Bytes.count c.take.new.buffer run.brought c.in-Bytes.ensures.turns) goes

pub returns-in-Idle-clause-goes : goal.returns-in-Idle-clause-goes
returns-in-Idle-clause-goes g c = λ turns before run.
    let goes = c.idle.ensures.goes before (g.T.Sink.seen c.args.sink.now).held run.steps run.answered in
    turns_on _ (g.C.StreamCommand.has_read c.idle.new.self.command) c.idle.new.self.tally turns (g.S.Source.seen c.take.new.self).left before (g.T.Sink.seen c.args.sink.now).held _ c.idle.result
    (brought_idle turns _ _ run.steps c.take.new.buffer run.brought c.in-Idle.ensures.turns) (rw c.idle.ensures.same goes)

pub returns-in-End-clause-goes : goal.returns-in-End-clause-goes
returns-in-End-clause-goes g c = λ turns before run.
    turns_to_end _ turns _ _ before _ run.steps c.take.new.buffer c.finish.result run.brought c.in-End.ensures.turns (c.finish.ensures.ends before run.steps run.answered)

pub returns-in-Failed-clause-goes : goal.returns-in-Failed-clause-goes
returns-in-Failed-clause-goes g c = λ turns before run.
    turns_to_fault _ (g.C.StreamCommand.has_read c.args.self.now.command) (g.met.C.StreamCommand.owes_so_far c.args.self.now.command) c.args.self.now.tally turns _ _ before _ run.steps c.take.new.buffer
    run.brought c.in-Failed.ensures.turns run.answered
