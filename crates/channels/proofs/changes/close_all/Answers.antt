use Rattle.std.proofs.Common.{ap, sym, ◌∙◌}
use Rattle.channels.specs.Orders.{by_id}
use Rattle.channels.specs.Tables.{without_ids}
use Rattle.channels.proofs.Leaving.{without-last}
use Rattle.channels.proofs.changes.close_all.Goals as goal

pub loop-id-preserved : goal.loop-id-preserved
loop-id-preserved c = record {
  closed =
      ap (without_ids c.pop.new.self.items) c.close_kept.ensures.closed
      ∙ sym (without-last c.pop.new.self.items c.in-Some.id (by_id c.loop-id.channels.entries))
      ∙ ap (λ ids. without_ids ids (by_id c.loop-id.channels.entries)) (sym c.in-Some.ensures.items) ∙ c.loop-id.invariant.closed;
  held = c.close_kept.ensures.held;
}
