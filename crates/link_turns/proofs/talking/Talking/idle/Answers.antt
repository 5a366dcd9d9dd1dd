use Rattle.std.proofs.Common.{inl}
use Rattle.pool_io.specs.declared.turn.Turn.TheVariants as turn
use Rattle.link_turns.proofs.Turning.{said_for}
use Rattle.link_turns.proofs.talking.Talking.idle.Goals as goal

pub returns-in-Ok-clause-answers : goal.returns-in-Ok-clause-answers
returns-in-Ok-clause-answers g c = λ task past said taken.
    inl
    (record {
      words = c.idle.new.out.items;
      ended = c.in-Ok.ended;
      is_said = said_for g.P.Partner.asked task g.P.Partner.has_taken g.P.Partner.has_ended c.args.partner.now c.idle.new.self turn.Idle
          c.clear.new.self.items c.idle.new.out.items c.in-Ok.ended c.clear.ensures.items c.in-Ok.ensures.task c.in-Ok.ensures.told past said taken;
      finishes = c.finish.ensures.goes;
    })
