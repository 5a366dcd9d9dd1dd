use Rattle.std.proofs.Common.{◌∙◌, ◌≤◌, arith}
use Rattle.std.proofs.lemmas.List.{length-take-le}
use Rattle.v2_sessions.proofs.Openings.{bytes_came, idled_more, idled_out}
use Rattle.v2_sessions.proofs.beginning.first_piece.Goals as goal

pub returns-in-Bytes-clause-waits : goal.returns-in-Bytes-clause-waits
returns-in-Bytes-clause-waits g c =
    let bound = c.in-Bytes.ensures.bound in
    let len = length-take-le c.in-Bytes.count c.take.new.buffer bound.1 in
    let short : c.in-Bytes.count ≤ 4096 = omega (arith, bound.1, c.take.auto.buffer, c.loop-count.invariant.room) in (
      bound.1,
      bytes_came c.args.idle_turns c.loop-count.waiting (g.L.Link.seen c.args.link.now) (g.L.Link.seen c.loop-count.link) (g.L.Link.seen c.take.new.link)
          c.take.new.buffer c.loop-count.invariant.waits c.in-Bytes.count len bound.0 short c.in-Bytes.ensures.takes c.take.new.self c.in-Bytes.ensures.counted,
    )

pub returns-in-Idle-clause-waits : goal.returns-in-Idle-clause-waits
returns-in-Idle-clause-waits g c =
    idled_out c.args.idle_turns c.loop-count.waiting (g.L.Link.seen c.args.link.now) (g.L.Link.seen c.loop-count.link) (g.L.Link.seen c.take.new.link)
    c.take.new.buffer c.loop-count.invariant.waits c.in-Idle.ensures.takes c.take.new.self c.in-Idle.ensures.counted
    c.if-waiting-eq0.true

pub loop-count-preserved : goal.loop-count-preserved
loop-count-preserved g c =
    let waits = idled_more c.args.idle_turns c.loop-count.waiting (g.L.Link.seen c.args.link.now) (g.L.Link.seen c.loop-count.link) (g.L.Link.seen c.take.new.link)
    c.take.new.buffer c.loop-count.invariant.waits c.in-Idle.ensures.takes c.take.new.self c.in-Idle.ensures.counted
    c.if-waiting-eq0.false in
    record {
      room = c.take.auto.buffer ∙ c.loop-count.invariant.room;
      below = rw waits.counted (record { some = omega arith; waits = omega (arith, waits.few); most = omega arith });
      waits = waits;
    }
