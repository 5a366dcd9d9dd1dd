use Rattle.std.proofs.Common.{◌<◌, ap, ◌∙◌}
use Rattle.std.proofs.Math.Dec.{eqb}
use Rattle.indexmap.proofs.CallerLemmas.{insert_entry-new}
use Rattle.channels.specs.Orders.{by_id}
use Rattle.channels.proofs.Ordering.{above-none, by_id-all, joined-by_id}
use Rattle.channels.proofs.changes.put_channel.Goals as goal

pub returns : goal.returns
returns c =
    let above = by_id-all (λ e. e.0 < c.args.id) c.args.channels.now.entries c.requires.above in
    ap by_id (c.in-Ok.ensures.entries
    ∙ insert_entry-new eqb c.args.channels.now c.args.id c.args.channel (above-none c.args.id c.args.channels.now.entries above))
    ∙ joined-by_id c.args.channels.now.entries (c.args.id, c.args.channel) above
