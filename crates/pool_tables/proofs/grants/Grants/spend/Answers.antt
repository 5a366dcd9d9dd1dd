use Rattle.std.proofs.Common.{◌≤◌, None, ap, subst, sym, ◌∙◌}
use Rattle.std.proofs.Math.ListN.{set}
use Rattle.std.proofs.lemmas.Bool.{false≢true}
use Rattle.std.specs.Prelude.{is_some, IsSome}
use Rattle.pool_history.specs.Refusing.{most_grants}
use Rattle.pool_tables.specs.GrantTables.{HasNoPlace, HasPlace, held_for}
use Rattle.pool_tables.proofs.Holding.{held-none}
use Rattle.pool_tables.proofs.Showing.{spent-shown}
use Rattle.pool_tables.proofs.grants.Grants.spend.Goals as goal

pub returns-in-Some : goal.returns-in-Some
returns-in-Some c session custom past is shows =
    spent-shown c.args.self.now _ c.in-Some.place session custom past
    (subst (λ n. n ≤ most_grants) c.count.ensures.value c.count.ensures.most)
    (subst (λ n. HasPlace custom.token n c.in-Some.place) c.count.ensures.value
    (subst (λ t. HasPlace t c.count.result c.in-Some.place) (sym is) c.in-Some.ensures.found))
    (subst (λ t. IsSome (held_for c.args.self.now.held t)) (sym is) c.requires)
    (c.take_granted.ensures ∙ ap (λ t. set t.held c.in-Some.place None) c.self.view_is) shows

pub returns-in_default : goal.returns-in_default
returns-in_default c session custom past is shows =
    absurd (false≢true (sym (ap is_some
    (held-none c.args.self.now.held c.args.token.now (subst (HasNoPlace c.args.token.now) c.count.ensures.value c.in_default.ensures.missing)))
    ∙ c.requires))
