use Rattle.std.proofs.Common.{refl, ◌≤◌, arith}
use Rattle.std.proofs.lemmas.List.{length-take-le}
use Rattle.line_turns.specs.Listening.{intake_of}
use Rattle.line_turns.proofs.Heard.{bytes_turned, end_turned, failed_turned, idle_turned}
use Rattle.line_turns.proofs.hearing.Lines.turn.Goals as goal

pub returns-in-Bytes-clause-hears : goal.returns-in-Bytes-clause-hears
returns-in-Bytes-clause-hears g c =
    let bound = c.in-Bytes.ensures.bound in
    let there = length-take-le c.in-Bytes.count c.take.new.buffer bound.1 in
    let short : c.in-Bytes.count ≤ 4096 = omega (arith, bound.1, c.take.auto.buffer, c.requires.room) in
    bytes_turned g.T.LineTalker.goes_on g.T.LineTalker.ends g.met.T.LineTalker.hears_lines c.args.self.now c.requires.listening c.args.talker.now (g.L.Link.seen c.args.link.now) (g.L.Link.seen c.take.new.link)
    c.take.new.buffer c.in-Bytes.count there bound.0 short c.in-Bytes.ensures.within.1 c.in-Bytes.ensures.takes (intake_of c.bytes.new.self) c.bytes.result c.bytes.new.talker (g.L.Link.seen c.bytes.new.link)
    (rw c.in-Bytes.ensures.counted at c.bytes.ensures.hears)

pub returns-in-Idle-clause-hears : goal.returns-in-Idle-clause-hears
returns-in-Idle-clause-hears g c =
    idle_turned g.T.LineTalker.goes_on g.T.LineTalker.ends g.met.T.LineTalker.hears_lines c.args.self.now c.requires.listening c.args.talker.now (g.L.Link.seen c.args.link.now) (g.L.Link.seen c.take.new.link)
    c.take.new.buffer (record c.args.self.now { waiting = c.take.new.self }) refl c.in-Idle.ensures.counted c.in-Idle.ensures.takes c.idle.result c.idle.new.talker (g.L.Link.seen c.idle.new.link) c.idle.ensures.hears

pub returns-in-End-clause-hears : goal.returns-in-End-clause-hears
returns-in-End-clause-hears g c =
    rw c.end.ensures
    (end_turned g.T.LineTalker.goes_on g.T.LineTalker.ends g.met.T.LineTalker.hears_lines c.args.self.now c.requires.listening c.args.talker.now (g.L.Link.seen c.args.link.now) (g.L.Link.seen c.take.new.link)
    c.take.new.buffer c.in-End.ensures.takes (intake_of (record c.args.self.now { waiting = c.take.new.self })))

pub returns-in-Failed-clause-hears : goal.returns-in-Failed-clause-hears
returns-in-Failed-clause-hears g c =
    failed_turned g.T.LineTalker.goes_on g.T.LineTalker.ends g.met.T.LineTalker.hears_lines c.args.self.now c.requires.listening c.args.talker.now (g.L.Link.seen c.args.link.now) (g.L.Link.seen c.take.new.link)
    c.take.new.buffer c.in-Failed.ensures.takes (intake_of (record c.args.self.now { waiting = c.take.new.self }))
