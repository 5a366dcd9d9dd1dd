use Rattle.std.proofs.Common.{◌≤◌, ap, ◌∙◌, arith}
use Rattle.std.proofs.lemmas.List.{length-take-le}
use Rattle.pool_io.specs.Seen.{SinkSeen}
use Rattle.pool_io.specs.declared.source.Took.TheVariants as took
use Rattle.pool_io.specs.declared.turn.Turn.TheVariants as turn
use Rattle.link_turns.specs.Talks.{EndedFor, TakenFor}
use Rattle.link_turns.specs.Waits.{waiting_after}
use Rattle.link_turns.proofs.Turning.{below_if, turned_at, turned_bytes, turned_idle, turned_on}
use Rattle.link_turns.proofs.talking.Talking.turn.Goals as goal

pub returns-in-Bytes-clause-below : goal.returns-in-Bytes-clause-below
returns-in-Bytes-clause-below g c =
    let most : c.piece.new.self.waiting.idles ≤ c.piece.new.self.waiting.idle_turns = rw (c.piece.ensures.waiting, c.in-Bytes.ensures.counted) (omega arith) in
    below_if c.piece.result c.piece.new.self.waiting most c.piece.ensures.below

pub returns-in-Bytes-clause-goes : goal.returns-in-Bytes-clause-goes
returns-in-Bytes-clause-goes g c = λ task bounds first talking.
    let taken = TakenFor g.P.Partner.asked task g.P.Partner.has_taken in
    let ended = EndedFor g.P.Partner.asked task g.P.Partner.has_ended in
    let bound = c.in-Bytes.ensures.bound in
    let len = length-take-le c.in-Bytes.count c.take.new.buffer bound.1 in
    let short : c.in-Bytes.count ≤ 4096 = omega (arith, bound.1, c.take.auto.buffer, c.requires.room) in
    let behind = g.L.Link.seen c.take.new.link in
    let now = g.L.Link.seen c.piece.new.link in
    let turned = turned_bytes taken bounds c.args.self.now.waiting first (g.L.Link.seen c.args.link.now) behind c.args.partner.now talking
    c.requires.below c.take.new.buffer c.in-Bytes.count len bound.0 short c.in-Bytes.ensures.within.1 c.in-Bytes.ensures.takes in
    turned_on taken ended bounds c.piece.new.self.waiting first now c.args.partner.now c.piece.new.partner _ talking.past
    (turned_at bounds (waiting_after (took.Bytes c.in-Bytes.count) c.args.self.now.waiting) c.piece.new.self.waiting first behind now _ turned
    (c.piece.ensures.waiting ∙ c.in-Bytes.ensures.counted) c.piece.ensures.source)
    behind.sink.held talking.put (rw (ap (λ (s : SinkSeen). s.held) c.in-Bytes.ensures.takes.sink) talking.added) talking.is_said c.piece.result
    (c.piece.ensures.answers task talking.past talking.put talking.is_said)

pub returns-in-Idle-clause-below : goal.returns-in-Idle-clause-below
returns-in-Idle-clause-below g c =
    let most : c.idle.new.self.waiting.idles ≤ c.idle.new.self.waiting.idle_turns = rw (c.idle.ensures.waiting, c.in-Idle.ensures.counted) (omega (arith, c.requires.below.most)) in
    below_if c.idle.result c.idle.new.self.waiting most c.idle.ensures.below

pub returns-in-Idle-clause-goes : goal.returns-in-Idle-clause-goes
returns-in-Idle-clause-goes g c = λ task bounds first talking.
    let taken = TakenFor g.P.Partner.asked task g.P.Partner.has_taken in
    let ended = EndedFor g.P.Partner.asked task g.P.Partner.has_ended in
    let behind = g.L.Link.seen c.take.new.link in
    let now = g.L.Link.seen c.idle.new.link in
    let turned = turned_idle taken bounds c.args.self.now.waiting first (g.L.Link.seen c.args.link.now) behind c.args.partner.now talking
    c.requires.below c.take.new.buffer c.in-Idle.ensures.takes in
    turned_on taken ended bounds c.idle.new.self.waiting first now c.args.partner.now c.idle.new.partner turn.Idle talking.past
    (turned_at bounds (waiting_after took.Idle c.args.self.now.waiting) c.idle.new.self.waiting first behind now _ turned
    (c.idle.ensures.waiting ∙ c.in-Idle.ensures.counted) c.idle.ensures.source)
    behind.sink.held talking.put (rw (ap (λ (s : SinkSeen). s.held) c.in-Idle.ensures.takes.sink) talking.added) talking.is_said c.idle.result
    (c.idle.ensures.answers task talking.past talking.put talking.is_said)
