use Rattle.std.proofs.Common.{ap, ◌∙◌}
use Rattle.pool_history.specs.Channels.{channel_in}
use Rattle.channels.specs.Orders.{by_id}
use Rattle.channels.proofs.Disjoint.{shown-disjoint}
use Rattle.channels.proofs.table.spaces_apart.Goals as goal

pub returns : goal.returns
returns c one other is-one is-other =
    shown-disjoint (by_id c.channels.inside.channels.entries) c.channels.invariant.0.holds.apart c.args.a c.args.b one other
    (ap (λ table. channel_in table.open_channels c.args.a) c.channels.view_is ∙ is-one)
    (ap (λ table. channel_in table.open_channels c.args.b) c.channels.view_is ∙ is-other) c.requires
