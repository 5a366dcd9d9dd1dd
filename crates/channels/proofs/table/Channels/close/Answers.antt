use Rattle.std.proofs.Common.{◌≡◌, ℕ, Bool, None, Some, List, refl, ap, subst, sym, ◌∙◌}
use Rattle.std.proofs.Math.Dec.{eqb}
use Rattle.std.proofs.lemmas.Bool.{false≢true}
use Rattle.std.specs.Prelude.{filter, not}
use Rattle.std.specs.Map.{lookup}
use Rattle.history_laws.proofs.Legalities.{some-none}
use Rattle.pool_history.specs.Channels.{OpenChannel, channel_in, channels_in, channels_told}
use Rattle.channels.specs.declared.channel.Channel.{Channel}
use Rattle.channels.specs.Orders.{by_id}
use Rattle.channels.specs.Tables.{AreKept, HoldsLeads, ListsChannels, shown_channel}
use Rattle.channels.proofs.Closings.{IsOwn, closed-kept, own-lead, own-none, own-session, own-shown, remove-shown}
use Rattle.channels.proofs.Cuts.{all-as, all-filtered}
use Rattle.channels.proofs.Lookups.{shown_all}
use Rattle.channels.proofs.OwnChannels.{removed-listed}
use Rattle.channels.proofs.table.Channels.close.Goals as goal

pub returns-in_default-clause-not_open : goal.returns-in_default-clause-not_open
returns-in_default-clause-not_open c =
    let entries : List (ℕ × Channel) = by_id c.self.inside.channels.entries in
    let none : channel_in (channels_in c.args.self.now.open_channels c.args.session) c.args.channel ≡ None =
    sym (ap (λ table. channel_in (channels_in table.open_channels c.args.session) c.args.channel) c.self.view_is)
    ∙ own-shown c.args.session c.args.channel entries c.own_lead.ensures.unique
    ∙ own-none c.args.session c.args.channel (lookup (eqb c.args.channel) entries) (sym c.own_lead.ensures.value ∙ c.in_default.is) in
    (λ failed. none, λ is. refl)

pub close_kept-requires : goal.close_kept-requires
close_kept-requires c = c.self.invariant.0.holds

pub invariant_of-self : goal.invariant_of-self
invariant_of-self c =
    let entries : List (ℕ × Channel) = by_id c.self.inside.channels.entries in
    let own : IsOwn c.args.session c.args.channel (lookup (eqb c.args.channel) entries) c.in-Some._lead =
    own-lead c.args.session c.args.channel (lookup (eqb c.args.channel) entries) c.in-Some._lead
    (sym c.own_lead.ensures.value ∙ c.in-Some.is) in
    subst (λ es. AreKept c.self.inside.opened es c.close_kept.new.space.held × ListsChannels c.unlist.new.lists.entries es) (sym c.close_kept.ensures.closed) (
      closed-kept c.self.inside.opened entries c.self.inside.space.held c.close_kept.new.space.held c.args.channel c.self.invariant.0
          (subst (λ es. HoldsLeads c.close_kept.new.space.held es) c.close_kept.ensures.closed c.close_kept.ensures.held),
      removed-listed c.self.inside.lists.entries c.unlist.new.lists.entries c.args.session c.args.channel own.channel entries c.unlist.ensures
          c.own_lead.ensures.unique (own-session own) own.is c.self.invariant.1,
    )

pub returns-clause-not_open : goal.returns-clause-not_open
returns-clause-not_open c =
    let entries : List (ℕ × Channel) = by_id c.self.inside.channels.entries in
    let own : IsOwn c.args.session c.args.channel (lookup (eqb c.args.channel) entries) c.in-Some._lead =
    own-lead c.args.session c.args.channel (lookup (eqb c.args.channel) entries) c.in-Some._lead
    (sym c.own_lead.ensures.value ∙ c.in-Some.is) in
    let there : channel_in (channels_in c.args.self.now.open_channels c.args.session) c.args.channel ≡ Some (shown_channel c.args.channel own.channel) =
    sym (ap (λ table. channel_in (channels_in table.open_channels c.args.session) c.args.channel) c.self.view_is)
    ∙ own-shown c.args.session c.args.channel entries c.own_lead.ensures.unique ∙ own.own in
    (λ failed. absurd (false≢true failed), λ none. absurd (some-none (sym there ∙ none)))

pub returns-clause-told : goal.returns-clause-told
returns-clause-told c is_asked moves told =
    let entries : List (ℕ × Channel) = by_id c.self.inside.channels.entries in
    let stays : OpenChannel → Bool = λ channel. not (eqb channel.id c.args.channel) in
    record {
      opened_are = ap (λ table. table.opened) c.self.view_is ∙ told.opened_are;
      channels_are =
          all-as is_asked (shown_all (by_id c.close_kept.new.channels.entries)) (filter stays c.args.self.now.open_channels) (filter stays (channels_told moves))
          (ap shown_all c.close_kept.ensures.closed
          ∙ remove-shown c.args.channel entries c.own_lead.ensures.unique
          ∙ ap (λ table. filter stays table.open_channels) c.self.view_is)
          (all-filtered is_asked stays (λ k t one. ap (λ id. not (eqb id c.args.channel)) one.id_is) c.args.self.now.open_channels (channels_told moves)
          told.channels_are);
    }
