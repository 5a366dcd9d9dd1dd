use Rattle.std.proofs.Common.{◌≡◌, ℕ, ◌≤◌, true, is_some, List, refl, ap, subst, sym, ◌∙◌}
use Rattle.std.proofs.Math.Dec.{eqb}
use Rattle.std.proofs.lemmas.Result.{on_ok_weaker}
use Rattle.std.specs.Map.{lookup}
use Rattle.pool_history.specs.Channels.{channel_in}
use Rattle.channels.specs.declared.channel.Channel.{Channel}
use Rattle.channels.specs.Orders.{by_id}
use Rattle.channels.specs.Tables.{AreKept, ListsChannels, count_kept, roomed_channel, rooms_of}
use Rattle.channels.proofs.Changing.{changed-kept, room-made, roomed-class, shown-roomed}
use Rattle.channels.proofs.OwnChannels.{changed-listed}
use Rattle.channels.proofs.Lookups.{shown_all}
use Rattle.channels.proofs.table.Channels.make_class_room.Goals as goal

pub invariant_of-self : goal.invariant_of-self
invariant_of-self c =
    let entries : List (ℕ × Channel) = by_id c.self.inside.channels.entries in
    let room : ℕ = c.reserve_class.ensures.0 in
    subst (λ es. AreKept c.self.inside.opened es c.self.inside.space.held × ListsChannels c.self.inside.lists.entries es) (sym c.reserve_class.ensures.1) (
      changed-kept (roomed_channel room) c.self.inside.opened c.args.channel entries c.self.inside.space.held (λ kept. refl) (roomed-class room)
          c.self.invariant.0,
      changed-listed (roomed_channel room) c.args.channel c.self.inside.lists.entries entries (λ kept. refl) c.self.invariant.1,
    )

pub returns-clause-same : goal.returns-clause-same
returns-clause-same c = record {
  opened_stays = ap (λ table. table.opened) c.self.view_is;
  channels_stay =
      ap shown_all c.reserve_class.ensures.1 ∙ shown-roomed c.reserve_class.ensures.0 c.args.channel (by_id c.self.inside.channels.entries)
      ∙ ap (λ table. table.open_channels) c.self.view_is;
}

pub returns-clause-ready : goal.returns-clause-ready
returns-clause-ready c =
    let entries : List (ℕ × Channel) = by_id c.self.inside.channels.entries in
    let there : is_some (channel_in (shown_all entries) c.args.channel) ≡ true =
    ap (λ table. is_some (channel_in table.open_channels c.args.channel)) c.self.view_is ∙ c.requires in
    on_ok_weaker c.reserve_class.result
    (λ room. record {
      room =
          subst (λ o. 1 ≤ count_kept o)
          (sym
          (ap (λ es. lookup (eqb c.args.channel) (rooms_of es)) c.reserve_class.ensures.1
          ∙ room-made c.reserve_class.ensures.0 c.args.channel entries there)) room;
      there =
          ap (λ es. is_some (channel_in (shown_all es) c.args.channel)) c.reserve_class.ensures.1
          ∙ ap (λ shown. is_some (channel_in shown c.args.channel)) (shown-roomed c.reserve_class.ensures.0 c.args.channel entries) ∙ there;
    }) c.reserve_class.ensures.2
