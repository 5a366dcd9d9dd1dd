use Rattle.std.proofs.Common.{◌≤◌, ap, refl, subst, sym, ◌∙◌}
use Rattle.channels.specs.Cuts.{cut_sets}
use Rattle.channels.specs.Orders.{by_id}
use Rattle.channels.specs.Tables.{count_kept, reclassed_channel}
use Rattle.channels.proofs.Changing.{changed-by_id, room-kept, settings-written, unfound-changed}
use Rattle.channels.proofs.Ordering.{lookup-by_id}
use Rattle.channels.proofs.changes.put_class.Goals as goal

pub set-requires : goal.set-requires
set-requires c =
    subst (λ o. 1 ≤ count_kept o)
    (room-kept c.args.id (by_id c.args.channels.now.entries) c.in-Some.there.now
    (lookup-by_id c.args.id c.args.channels.now.entries c.get_mut.ensures.unique ∙ sym c.in-Some.ensures.value)) c.requires

pub returns-in-Some : goal.returns-in-Some
returns-in-Some c = (
  c.set.new.self.room,
  ap by_id ((c.get_mut.follows.holds _).0
      ∙ settings-written (reclassed_channel c.set.new.self.room c.args.at c.args.class c.args.span) c.args.class c.args.id c.in-Some.there.now c.set.new.self
      (record { sets = cut_sets c.args.at c.args.class c.args.span c.in-Some.there.now.settings.sets; room = c.set.new.self.room }) _
      c.args.channels.now.entries c.get_mut.ensures.unique (sym c.in-Some.ensures.value)
      (ap (λ sets. record { sets = sets; room = c.set.new.self.room }) c.set.ensures) refl)
      ∙ changed-by_id (reclassed_channel c.set.new.self.room c.args.at c.args.class c.args.span) c.args.id c.args.channels.now.entries,
)

pub returns-in_default : goal.returns-in_default
returns-in_default c = (
  1,
  ap by_id (ap (λ m. m.entries) c.get_mut.follows.holds-at-none
      ∙ sym
      (unfound-changed (reclassed_channel 1 c.args.at c.args.class c.args.span) c.args.id c.args.channels.now.entries (sym c.in_default.ensures.value)))
      ∙ changed-by_id (reclassed_channel 1 c.args.at c.args.class c.args.span) c.args.id c.args.channels.now.entries,
)
