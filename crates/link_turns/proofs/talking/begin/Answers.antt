use Rattle.std.proofs.Common.{[], refl, inl, inr, None, arith}
use Rattle.pool_io.proofs.Puts.{Adds-none}
use Rattle.link_turns.specs.Talks.{EndedFor, TakenFor, bounds_of}
use Rattle.link_turns.proofs.Turning.{begins, ends_first}
use Rattle.link_turns.specs.declared.talking.TalkEnd.TheVariants as end
use Rattle.link_turns.proofs.talking.begin.Goals as goal

pub returns-in_default-clause-begins : goal.returns-in_default-clause-begins
returns-in_default-clause-begins g c =
    let taken = TakenFor g.P.Partner.asked (g.P.Partner.asked c.args.partner.now) g.P.Partner.has_taken in
    let ended = EndedFor g.P.Partner.asked (g.P.Partner.asked c.args.partner.now) g.P.Partner.has_ended in
    let first = g.L.Link.seen c.args.link.now in
    ends_first taken (bounds_of c.args.idle_turns) first first c.start.new.self refl ended end.Memory [] (Adds-none first.sink.held) (inr refl)

pub returns-in-Ok-put_whole-clause-begins : goal.returns-in-Ok-put_whole-clause-begins
returns-in-Ok-put_whole-clause-begins g c =
    let taken = TakenFor g.P.Partner.asked (g.P.Partner.asked c.args.partner.now) g.P.Partner.has_taken in
    begins taken (bounds_of c.args.idle_turns) (g.L.Link.seen c.args.link.now) (g.L.Link.seen c.put_whole.new.link) c.start.new.self c.in-Ok-put_whole.ensures.source
    c.new.result c.start.new.out.items (rw c.deref.ensures.value at c.in-Ok-put_whole.ensures.ok) (c.in-Ok.ensures.task, c.in-Ok.ensures.told [] c.new-2.ensures.items)
    (rw c.new.ensures (record { turns = refl; idles = omega arith; bytes = omega arith }))
    (rw c.new.ensures (record { some = omega arith; waits = c.requires.waits; most = omega arith }))

pub returns-in-Err-Failed-clause-begins : goal.returns-in-Err-Failed-clause-begins
returns-in-Err-Failed-clause-begins g c =
    let taken = TakenFor g.P.Partner.asked (g.P.Partner.asked c.args.partner.now) g.P.Partner.has_taken in
    let ended = EndedFor g.P.Partner.asked (g.P.Partner.asked c.args.partner.now) g.P.Partner.has_ended in
    let put = rw c.deref.ensures.value at c.in-Err-Failed.ensures.err in
    ends_first taken (bounds_of c.args.idle_turns) (g.L.Link.seen c.args.link.now) (g.L.Link.seen c.put_whole.new.link) c.start.new.self c.in-Err-Failed.ensures.source
    ended end.WriteFault put.0 put.2
    (record {
      said = c.start.new.out.items;
      reason = None;
      front = put.1;
      is_said = (c.in-Ok.ensures.task, c.in-Ok.ensures.told [] c.new-2.ensures.items);
    })

pub returns-clause-begins : goal.returns-clause-begins
returns-clause-begins g c =
    let taken = TakenFor g.P.Partner.asked (g.P.Partner.asked c.args.partner.now) g.P.Partner.has_taken in
    let ended = EndedFor g.P.Partner.asked (g.P.Partner.asked c.args.partner.now) g.P.Partner.has_ended in
    let put = rw c.deref.ensures.value at c.in-Err-Memory.ensures.err in
    ends_first taken (bounds_of c.args.idle_turns) (g.L.Link.seen c.args.link.now) (g.L.Link.seen c.put_whole.new.link) c.start.new.self c.in-Err-Memory.ensures.source
    ended end.Memory put.0 put.2
    (inl
    (record {
      said = c.start.new.out.items;
      reason = None;
      front = put.1;
      is_said = (c.in-Ok.ensures.task, c.in-Ok.ensures.told [] c.new-2.ensures.items);
    }))
