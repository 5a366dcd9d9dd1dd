use Rattle.std.proofs.Common.{Some, [], ◌∷◌, ◌++◌, ap, ◌∙◌}
use Rattle.pool_history.specs.Refusing.{Granted}
use Rattle.pool_tables.proofs.Showing.{granted-shown}
use Rattle.pool_tables.proofs.grants.Grants.grant.Goals as goal

pub returns-clause-shown : goal.returns-clause-shown
returns-clause-shown c session past shows =
    let granted : Granted = record { account = c.args.account; fixed = c.args.fixed; path = c.args.path } in
    granted-shown c.args.self.now _ granted session past c.requires.few
    (c.push_granted.ensures ∙ ap (λ t. t.held ++ Some granted ∷ []) c.self.view_is) shows
