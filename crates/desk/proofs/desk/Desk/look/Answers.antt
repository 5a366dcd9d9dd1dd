use Rattle.std.proofs.Common.{rules}
use Rattle.desk.proofs.Acts.{looked-rests}
use Rattle.desk.proofs.Kept.{looks}
use Rattle.desk.proofs.desk.Desk.look.Goals as goal

pub load-requires : goal.load-requires
load-requires g c = (
  search rules,
  search rules,
  looks g.M.Machine.answers g.M.Machine.wants_memory g.M.Machine.events g.M.Machine.health _ _ _ c.pass.inside.seat.id c.pass.inside.seat.me c.pass.invariant.turn,
)

pub invariant_of-pass : goal.invariant_of-pass
invariant_of-pass g c =
    let rests = c.pass.invariant in
    looked-rests c.pass.inside.worker c.pass.inside.seat.me c.load.new.seat.me _ rests.carried rests.turn rests.workers rests.numbers rests.fronts rests.own c.load.ensures.2

pub returns-clause-rise : goal.returns-clause-rise
returns-clause-rise g c = let rests = invariant_of-pass g c in (rests.numbers, rests.fronts)
