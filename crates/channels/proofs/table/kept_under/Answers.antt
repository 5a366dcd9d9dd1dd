use Rattle.std.proofs.Common.{sym, ◌∙◌}
use Rattle.channels.proofs.Ordering.{distinct-rising, lookup-by_id, rising-by_id}
use Rattle.channels.specs.Orders.{by_id}
use Rattle.channels.proofs.table.kept_under.Goals as goal

pub returns-clause-value : goal.returns-clause-value
returns-clause-value c = c.get.ensures.value ∙ sym (lookup-by_id c.args.id c.args.channels.now.entries c.len-count.ensures.unique)

pub returns-clause-unique : goal.returns-clause-unique
returns-clause-unique c = distinct-rising (by_id c.args.channels.now.entries) (rising-by_id c.args.channels.now.entries c.len-count.ensures.unique)
