use Rattle.std.proofs.Common.{◌∷◌, subst, sym}
use Rattle.pool_history.specs.Answering.{account_for}
use Rattle.pool_history.specs.Channels.{Opens}
use Rattle.channels.specs.Tables.{IsTold}
use Rattle.channels.proofs.Planning.{told-same}
use Rattle.channels.proofs.table.Channels.open.Goals as goal

pub returns-in-Ok-clause-told : goal.returns-in-Ok-clause-told
returns-in-Ok-clause-told c is_asked moves told =
    subst (λ o. IsTold is_asked c.take_opening.new.self
    (Opens c.args.at c.args.session c.args.ask.now.kind (account_for c.args.ask.now.kind c.args.ask.now.identity) o.class o.lead ∷ moves))
    (sym c.take_opening.ensures.value)
    (subst (λ a. IsTold is_asked c.take_opening.new.self (Opens c.args.at c.args.session c.args.ask.now.kind a c.in-Ok.opened.class c.in-Ok.opened.lead ∷ moves))
    c.in-Ok.ensures.account
    (c.take_opening.ensures.told c.args.at is_asked moves (told-same is_asked c.args.self.now c.ready_opening.new.self moves c.ready_opening.ensures.same told)))
