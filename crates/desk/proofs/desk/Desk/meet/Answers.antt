use Rattle.std.proofs.Common.{rules, ap, ◌∙◌}
use Rattle.desk.specs.Views.{joined_view}
use Rattle.desk.proofs.Acts.{met-rests}
use Rattle.desk.proofs.Kept.{looks}
use Rattle.desk.proofs.Shared.{joins, tells}
use Rattle.desk.proofs.desk.Desk.meet.Goals as goal

pub split_seat-told-requires : goal.split_seat-told-requires
split_seat-told-requires g c = (
  search rules,
  search rules,
  tells g.M.Machine.answers g.M.Machine.wants_memory g.M.Machine.events g.M.Machine.health _ _ c.from.inside.seat.id c.from.inside.seat.me.0,
)

pub join_seat-requires : goal.join_seat-requires
join_seat-requires g c = (
  search rules,
  search rules,
  search rules,
  search rules,
  joins g.M.Machine.answers g.M.Machine.wants_memory g.M.Machine.events g.M.Machine.health _ _ c.to.inside.seat.id c.to.inside.seat.me.0 _ c.split_seat-told.result.me.0
      c.to.invariant.turn (ap (λ m. m.0.has_turn) c.split_seat-told.ensures.4),
)

pub load-requires : goal.load-requires
load-requires g c = (
  search rules,
  search rules,
  looks g.M.Machine.answers g.M.Machine.wants_memory g.M.Machine.events g.M.Machine.health _ _ _ c.join_seat.new.seat.id c.join_seat.new.seat.me
      (ap (λ m. m.0.has_turn) c.join_seat.ensures.2 ∙ c.to.invariant.turn),
)

pub invariant_of-to : goal.invariant_of-to
invariant_of-to g c =
    met-rests c.to.inside.worker c.to.inside.seat.me c.from.inside.seat.me c.join_seat.new.seat.me c.load.new.seat.me _ c.to.invariant
    (c.join_seat.ensures.2 ∙ ap (λ m. (joined_view c.to.inside.seat.me.0 m.0, c.to.inside.seat.me.1)) c.split_seat-told.ensures.4)
    c.load.ensures.2

pub returns-clause-rise : goal.returns-clause-rise
returns-clause-rise g c = let rests = invariant_of-to g c in (rests.numbers, rests.fronts)
