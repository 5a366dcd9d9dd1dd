use Rattle.std.proofs.Common.{◌≡◌, vec_len}
use Rattle.channels.specs.Orders.{by_id}
use Rattle.channels.specs.Tables.{HoldsLeads, without_ids}
use Rattle.channels.proofs.changes.close_all.Given as goal

abbrev pub invariant-loop-id : goal.invariant-loop-id
invariant-loop-id l = record {
  closed : without_ids l.ids.items (by_id l.channels.entries) ≡ without_ids l.fn.ids.items (by_id l.fn.channels.entries);
  held : HoldsLeads l.space.held (by_id l.channels.entries);
}

abbrev pub decreases-loop-id : goal.decreases-loop-id
decreases-loop-id l = vec_len l.ids
