use Rattle.std.proofs.Common.{subst, sym, ◌∙◌}
use Rattle.channels.specs.Orders.{by_id}
use Rattle.channels.specs.Tables.{HoldsLeads}
use Rattle.channels.proofs.Closings.{closed-holds, found-held}
use Rattle.channels.proofs.Ordering.{lookup-by_id, removed-by_id}
use Rattle.channels.proofs.changes.close_kept.Goals as goal

pub give-requires : goal.give-requires
give-requires c =
    c.requires.leads c.in-Some.channel.lead
    ∙ found-held c.args.id c.in-Some.channel (by_id c.args.channels.now.entries)
    (lookup-by_id c.args.id c.args.channels.now.entries c.len-count.ensures.unique ∙ sym c.swap_remove.ensures.value ∙ c.in-Some.is)

pub returns-in-Some-clause-closed : goal.returns-in-Some-clause-closed
returns-in-Some-clause-closed c =
    removed-by_id c.args.id c.args.channels.now.entries c.swap_remove.new.self.entries c.len-count.ensures.unique c.swap_remove.ensures.unique
    c.swap_remove.ensures.updates.0

pub returns-in-Some-clause-held : goal.returns-in-Some-clause-held
returns-in-Some-clause-held c =
    subst (λ es. HoldsLeads c.give.new.self.held es)
    (sym
    (removed-by_id c.args.id c.args.channels.now.entries c.swap_remove.new.self.entries c.len-count.ensures.unique c.swap_remove.ensures.unique
    c.swap_remove.ensures.updates.0))
    (closed-holds c.args.id c.in-Some.channel (by_id c.args.channels.now.entries) c.args.space.now.held c.give.new.self.held c.requires
    (lookup-by_id c.args.id c.args.channels.now.entries c.len-count.ensures.unique ∙ sym c.swap_remove.ensures.value ∙ c.in-Some.is)
    c.give.ensures.held c.give.ensures.gone)

pub returns-in_default-clause-closed : goal.returns-in_default-clause-closed
returns-in_default-clause-closed c =
    removed-by_id c.args.id c.args.channels.now.entries c.swap_remove.new.self.entries c.len-count.ensures.unique c.swap_remove.ensures.unique
    c.swap_remove.ensures.updates.0
