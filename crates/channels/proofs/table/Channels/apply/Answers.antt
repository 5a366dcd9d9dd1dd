use Rattle.std.proofs.Common.{◌∷◌, subst, sym}
use Rattle.channels.specs.Plans.{CutsAsPlanned, planned_move}
use Rattle.channels.specs.Tables.{IsTold}
use Rattle.channels.proofs.table.Channels.apply.Goals as goal

pub returns-in-Open-clause-told : goal.returns-in-Open-clause-told
returns-in-Open-clause-told c is_asked moves within told =
    subst (λ p. IsTold is_asked c.take_opening.new.self (planned_move p ∷ moves)) (sym c.in-Open.is) (c.take_opening.ensures.told c.in-Open.at is_asked moves told)

pub returns-in-Class-clause-cut : goal.returns-in-Class-clause-cut
returns-in-Class-clause-cut c = subst (λ p. CutsAsPlanned p c.args.self.now c.take_class.new.self) (sym c.in-Class.is) c.take_class.ensures.cut
