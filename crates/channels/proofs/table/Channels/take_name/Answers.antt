use Rattle.std.proofs.Common.{List, map, refl, ap, subst, sym, ◌∙◌, ℕ}
use Rattle.pool_history.specs.Channels.{OpenChannel, channels_told, with_name}
use Rattle.channels.specs.declared.channel.Channel.{Channel}
use Rattle.channels.specs.Orders.{by_id}
use Rattle.channels.specs.Tables.{ListsChannels, AreKept, named_channel}
use Rattle.channels.proofs.Changing.{changed-kept, named-class, shown-named}
use Rattle.channels.proofs.Cuts.{all-as, all-mapped, named-answers}
use Rattle.channels.proofs.OwnChannels.{changed-listed}
use Rattle.channels.proofs.Lookups.{shown_all}
use Rattle.channels.proofs.table.Channels.take_name.Goals as goal

pub invariant_of-self : goal.invariant_of-self
invariant_of-self c =
    let entries : List (ℕ × Channel) = by_id c.self.inside.channels.entries in
    subst (λ es. AreKept c.self.inside.opened es c.self.inside.space.held × ListsChannels c.self.inside.lists.entries es) (sym c.put_account.ensures) (
      changed-kept (named_channel c.args.account) c.self.inside.opened c.args.channel entries c.self.inside.space.held (λ kept. refl)
          (named-class c.args.account) c.self.invariant.0,
      changed-listed (named_channel c.args.account) c.args.channel c.self.inside.lists.entries entries (λ kept. refl) c.self.invariant.1,
    )

pub returns : goal.returns
returns c is_asked moves told =
    let named : OpenChannel → OpenChannel = with_name c.args.channel c.args.account in
    record {
      opened_are = ap (λ table. table.opened) c.self.view_is ∙ told.opened_are;
      channels_are =
          all-as is_asked (shown_all (by_id c.put_account.new.channels.entries)) (map named c.args.self.now.open_channels) (map named (channels_told moves))
          (ap shown_all c.put_account.ensures
          ∙ shown-named c.args.channel c.args.account (by_id c.self.inside.channels.entries)
          ∙ ap (λ table. map named table.open_channels) c.self.view_is)
          (all-mapped is_asked named named (named-answers is_asked c.args.channel c.args.account) c.args.self.now.open_channels (channels_told moves)
          told.channels_are);
    }
