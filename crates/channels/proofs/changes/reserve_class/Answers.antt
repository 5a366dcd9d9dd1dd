use Rattle.std.proofs.Common.{ap, refl, sym, ◌∙◌, arith}
use Rattle.channels.specs.Orders.{by_id}
use Rattle.channels.specs.Tables.{roomed_channel}
use Rattle.channels.proofs.Changing.{changed-by_id, settings-written, unfound-changed}
use Rattle.channels.proofs.changes.reserve_class.Goals as goal

pub returns-in-Some : goal.returns-in-Some
returns-in-Some c = (
  c.reserve.new.self.room,
  ap by_id ((c.get_mut.follows.holds _).0
      ∙ settings-written (roomed_channel c.reserve.new.self.room) c.in-Some.there.now.class c.args.id c.in-Some.there.now c.reserve.new.self
      (record { sets = c.in-Some.there.now.settings.sets; room = c.reserve.new.self.room }) _ c.args.channels.now.entries c.get_mut.ensures.unique
      (sym c.in-Some.ensures.value) (ap (λ sets. record { sets = sets; room = c.reserve.new.self.room }) c.reserve.ensures.same) refl)
      ∙ changed-by_id (roomed_channel c.reserve.new.self.room) c.args.id c.args.channels.now.entries,
  c.reserve.ensures.room,
)

pub returns-in-None : goal.returns-in-None
returns-in-None c = (
  1,
  ap by_id (ap (λ m. m.entries) c.get_mut.follows.holds-at-none
      ∙ sym (unfound-changed (roomed_channel 1) c.args.id c.args.channels.now.entries (sym c.in-None.ensures.value)))
      ∙ changed-by_id (roomed_channel 1) c.args.id c.args.channels.now.entries,
  omega arith,
)
