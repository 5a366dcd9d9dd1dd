use Rattle.std.proofs.Common.{◌∷◌, [], refl, ap, ◌∙◌}
use Rattle.std.proofs.lemmas.Result.{err_from_is_err_and}
use Rattle.pool_base.specs.Calls.{Replied}
use Rattle.proxy_server.proofs.serving.join.Goals as goal

pub returns-in_err-ask-clause-joins : goal.returns-in_err-ask-clause-joins
returns-in_err-ask-clause-joins g c =
    let failed = err_from_is_err_and c.from_residual.result c.from_residual.ensures.1 in
    let join = c.in_err-ask.ensures.call in
    rw failed.1 (join.call ∷ [], (c.in_err-ask.field-0.0, join.asked_is, join.outcome_is), (c.ask.new.self, join.done, refl))

pub returns-in_default : goal.returns-in_default
returns-in_default g c =
    let join = c.in_ok-ask.ensures.call in
    record {
      ready = c.ask.ensures.ready;
      joins = (join.call ∷ [], (c.in_ok-ask.field-0, (join.asked_is, join.outcome_is), c.in_default.not-Again), (c.ask.new.self, join.done, refl));
    }

pub returns-in_err-ask-2-clause-joins : goal.returns-in_err-ask-2-clause-joins
returns-in_err-ask-2-clause-joins g c =
    let failed = err_from_is_err_and c.from_residual-in_err-ask-2.result c.from_residual-in_err-ask-2.ensures.1 in
    let again = c.in_ok-ask.ensures.call in
    let leave = c.in_err-ask-2.ensures.call in
    rw failed.1 (
      again.call ∷ leave.call ∷ [],
      ((again.asked_is, again.outcome_is ∙ ap Replied c.in-Again.is), (c.in_err-ask-2.field-0.0, leave.asked_is, leave.outcome_is)),
      (c.ask.new.self, again.done, (c.ask-2.new.self, leave.done, refl)),
    )

pub returns-in_err-ask-3-clause-joins : goal.returns-in_err-ask-3-clause-joins
returns-in_err-ask-3-clause-joins g c =
    let failed = err_from_is_err_and c.from_residual-in_err-ask-3.result c.from_residual-in_err-ask-3.ensures.1 in
    let again = c.in_ok-ask.ensures.call in
    let leave = c.in_ok-ask-2.ensures.call in
    let join = c.in_err-ask-3.ensures.call in
    rw failed.1 (
      again.call ∷ leave.call ∷ join.call ∷ [],
      (
        (again.asked_is, again.outcome_is ∙ ap Replied c.in-Again.is),
        (c.in_ok-ask-2.field-0, (leave.asked_is, leave.outcome_is)),
        (c.in_err-ask-3.field-0.0, join.asked_is, join.outcome_is),
      ),
      (c.ask.new.self, again.done, (c.ask-2.new.self, leave.done, (c.ask-3.new.self, join.done, refl))),
    )

pub returns-clause-joins : goal.returns-clause-joins
returns-clause-joins g c =
    let again = c.in_ok-ask.ensures.call in
    let leave = c.in_ok-ask-2.ensures.call in
    let join = c.in_ok-ask-3.ensures.call in (
      again.call ∷ leave.call ∷ join.call ∷ [],
      (
        (again.asked_is, again.outcome_is ∙ ap Replied c.in-Again.is),
        (c.in_ok-ask-2.field-0, (leave.asked_is, leave.outcome_is)),
        (c.in_ok-ask-3.field-0, (join.asked_is, join.outcome_is)),
      ),
      (c.ask.new.self, again.done, (c.ask-2.new.self, leave.done, (c.ask-3.new.self, join.done, refl))),
    )
