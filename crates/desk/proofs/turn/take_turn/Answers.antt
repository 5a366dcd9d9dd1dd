use Rattle.std.proofs.Common.{rules, ◌/◌, ℕ, subst}
use Rattle.desk.specs.Plays.{IsTaken}
use Rattle.desk.proofs.Kept.{takes_turn}
use Rattle.desk.proofs.turn.take_turn.Goals as goal

pub compare_exchange-requires : goal.compare_exchange-requires
compare_exchange-requires g c = (
  search rules,
  search rules,
  takes_turn g.M.Machine.answers g.M.Machine.wants_memory g.M.Machine.events g.M.Machine.health _ _ _ c.loop.seat.id c.loop.seat.me c.peek-found.result c.requires.seat.0 (search rules) c.if-found-eq0.true,
)

pub returns-then-compare_exchange-found-clause-taken : goal.returns-then-compare_exchange-found-clause-taken
returns-then-compare_exchange-found-clause-taken g c =
    subst (λ (n : ℕ). IsTaken g.M.Machine.events g.M.Machine.health c.args.seat.now.me (n / 2) c.compare_exchange.new.seat.me) c.if-compare_exchange-found.true
    (subst (λ me. IsTaken g.M.Machine.events g.M.Machine.health me (c.compare_exchange.result / 2) c.compare_exchange.new.seat.me) c.loop.invariant.1
    (c.compare_exchange.ensures.2.1 c.if-compare_exchange-found.true))
