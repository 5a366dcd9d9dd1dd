use Rattle.std.proofs.Common.{arith}
use Rattle.link_hearing.proofs.Heard.{heard_all, heard_more}
use Rattle.link_hearing.proofs.hearing.hear_turns.Goals as goal

pub loop-end-preserved : goal.loop-end-preserved
loop-end-preserved g c = record {
  ready = (c.turn.ensures.sound, c.in_default.ensures.ready);
  below = c.in_default.ensures.below;
  room = (let a = c.turn.auto.buffer in let b = c.loop-end.invariant.room in omega (arith, a, b));
  so_far = heard_more g.H.TurnHearer.hears c.loop-end.invariant.so_far c.in_default.field-0 c.in_default.ensures.hears;
}

pub returns-in-Err-clause-hears : goal.returns-in-Err-clause-hears
returns-in-Err-clause-hears g c =
    heard_all g.H.TurnHearer.hears c.in-Err.end c.turn.new.waiting c.turn.new.hearer (g.L.Link.seen c.turn.new.link) c.loop-end.invariant.so_far c.in-Err.ensures.hears
