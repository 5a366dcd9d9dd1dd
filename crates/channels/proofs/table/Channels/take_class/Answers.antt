use Rattle.std.proofs.Common.{ℕ, ◌≤◌, List, map, refl, subst, sym, ap, ◌∙◌}
use Rattle.std.proofs.Math.Dec.{eqb}
use Rattle.std.specs.Map.{lookup}
use Rattle.pool_history.specs.Channels.{OpenChannel, channels_told, with_class}
use Rattle.channels.specs.declared.channel.Channel.{Channel}
use Rattle.channels.specs.Orders.{by_id}
use Rattle.channels.specs.Tables.{ListsChannels, AreKept, count_kept, reclassed_channel}
use Rattle.channels.proofs.Changing.{changed-kept, set-class, shown-set}
use Rattle.channels.proofs.Cuts.{all-as, all-mapped, cut-answers}
use Rattle.channels.specs.Cuts.{with_cut}
use Rattle.channels.proofs.OwnChannels.{changed-listed}
use Rattle.channels.proofs.Lookups.{shown_all}
use Rattle.channels.proofs.table.Channels.take_class.Goals as goal

pub put_class-requires : goal.put_class-requires
put_class-requires c = subst (λ table. 1 ≤ count_kept (lookup (eqb c.args.channel) table.setting_rooms)) (sym c.self.view_is) c.requires.room

pub invariant_of-self : goal.invariant_of-self
invariant_of-self c =
    let entries : List (ℕ × Channel) = by_id c.self.inside.channels.entries in
    let room : ℕ = c.put_class.ensures.0 in
    subst (λ es. AreKept c.self.inside.opened es c.self.inside.space.held × ListsChannels c.self.inside.lists.entries es) (sym c.put_class.ensures.1) (
      changed-kept (reclassed_channel room c.args.at c.args.class c.args.span) c.self.inside.opened c.args.channel entries c.self.inside.space.held
          (λ kept. refl) (set-class room c.args.at c.args.class c.args.span) c.self.invariant.0,
      changed-listed (reclassed_channel room c.args.at c.args.class c.args.span) c.args.channel c.self.inside.lists.entries entries (λ kept. refl)
          c.self.invariant.1,
    )

pub returns-clause-cut : goal.returns-clause-cut
returns-clause-cut c =
    ap shown_all c.put_class.ensures.1
    ∙ shown-set c.put_class.ensures.0 c.args.at c.args.channel c.args.class c.args.span (by_id c.self.inside.channels.entries)
    ∙ ap (λ table. map (with_cut c.args.at c.args.channel c.args.class c.args.span) table.open_channels) c.self.view_is

pub returns-clause-told : goal.returns-clause-told
returns-clause-told c is_asked moves within told = record {
  opened_are = ap (λ table. table.opened) c.self.view_is ∙ told.opened_are;
  channels_are =
      let cut : OpenChannel → OpenChannel = with_cut c.args.at c.args.channel c.args.class c.args.span in
      let told_channels : List OpenChannel = map (with_class c.args.at c.args.channel c.args.class) (channels_told moves) in
      all-as is_asked (shown_all (by_id c.put_class.new.channels.entries)) (map cut c.args.self.now.open_channels) told_channels
      (returns-clause-cut c)
      (all-mapped is_asked cut (with_class c.args.at c.args.channel c.args.class)
      (cut-answers is_asked c.args.at c.args.channel c.args.class c.args.span within) c.args.self.now.open_channels (channels_told moves) told.channels_are);
}
