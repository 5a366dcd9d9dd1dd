use Rattle.std.proofs.Common.{◌≤◌, ap, subst, sym, ◌∙◌}
use Rattle.std.specs.Prelude.{IsSome}
use Rattle.pool_history.specs.Refusing.{most_grants}
use Rattle.pool_tables.specs.GrantTables.{HasNoPlace, HasPlace, held_at}
use Rattle.pool_tables.proofs.Holding.{held-none, held_at-held}
use Rattle.pool_tables.proofs.Showing.{on_copied, one_to_spend}
use Rattle.pool_tables.proofs.grants.Grants.granted_for.Goals as goal

pub returns-in-Some-clause-value : goal.returns-in-Some-clause-value
returns-in-Some-clause-value c =
    c.granted_at.ensures ∙ ap (λ held. held_at held c.in-Some.place) c.deref.ensures.value
    ∙ ap (λ t. held_at t.held c.in-Some.place) c.self.view_is
    ∙ held_at-held c.args.self.now.held c.args.token.now c.in-Some.place
    (subst (λ n. n ≤ most_grants) c.count.ensures.value c.count.ensures.most)
    (subst (λ n. HasPlace c.args.token.now n c.in-Some.place) c.count.ensures.value c.in-Some.ensures.found)

pub returns-in-Some-clause-few : goal.returns-in-Some-clause-few
returns-in-Some-clause-few c =
    on_copied c.granted_at.result _ (λ some.
    one_to_spend c.args.self.now c.args.token.now c.in-Some.place
    (subst (λ n. n ≤ most_grants) c.count.ensures.value c.count.ensures.most)
    (subst (λ n. HasPlace c.args.token.now n c.in-Some.place) c.count.ensures.value c.in-Some.ensures.found)
    (subst IsSome (returns-in-Some-clause-value c) some))

pub returns-in-None-clause-value : goal.returns-in-None-clause-value
returns-in-None-clause-value c =
    sym (held-none c.args.self.now.held c.args.token.now (subst (HasNoPlace c.args.token.now) c.count.ensures.value c.in-None.ensures.missing))
