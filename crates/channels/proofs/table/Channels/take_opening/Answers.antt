use Rattle.std.proofs.Common.{◌≡◌, ℕ, ◌+◌, ◌<◌, ◌≤◌, true, List, [], ◌∷◌, ◌++◌, length, map, refl, ap, subst, sym, ◌∙◌, arith}
use Rattle.std.proofs.Math.Dec.{eqb}
use Rattle.std.specs.List.{AllByRecursion}
use Rattle.std.specs.Map.{lookup}
use Rattle.pool_history.proofs.PlacesOfClasses.{all-weaken}
use Rattle.pool_history.specs.Channels.{OpenChannel, channels_told, opened}
use Rattle.pool_history.specs.Spaces.{is_free, lowest}
use Rattle.channels.specs.declared.channel.Channel.{Channel}
use Rattle.pool_history.specs.Refusing.{has_too_many_among}
use Rattle.channels.specs.Orders.{by_id}
use Rattle.channels.specs.Tables.{AreKept, ListsChannels, count_kept, own_ids, room_of_list}
use Rattle.channels.proofs.Changing.{same-facts}
use Rattle.channels.proofs.Ordering.{lookup-mapped}
use Rattle.channels.proofs.OwnChannels.{few-shown, joined-listed}
use Rattle.channels.proofs.Closings.{leads_of}
use Rattle.channels.proofs.Cuts.{all-as, all-joined, answers-self}
use Rattle.channels.proofs.Joining.{held-lowest, joined-kept, leads-shown, lowest-free, shown-joined}
use Rattle.channels.proofs.Lookups.{shown_all}
use Rattle.channels.proofs.table.Channels.take_opening.Goals as goal

pub list_opening-requires : goal.list_opening-requires
list_opening-requires c =
    subst (λ n. 1 ≤ n)
    (ap (λ table. count_kept (lookup (eqb c.args.session) table.session_rooms)) (sym c.self.view_is)
    ∙ ap count_kept (lookup-mapped room_of_list c.args.session c.self.inside.lists.entries)) c.requires.listed

pub hold-requires-clause-lowest : goal.hold-requires-clause-lowest
hold-requires-clause-lowest c =
    held-lowest (length c.args.opened.lead) (by_id c.self.inside.channels.entries) c.self.inside.space.held c.self.invariant.0.holds.leads
    ∙ ap (λ table. lowest (length c.args.opened.lead) (map (λ channel. channel.lead) table.open_channels)) c.self.view_is ∙ c.requires.opening.lead_is

pub put_channel-requires-clause-above : goal.put_channel-requires-clause-above
put_channel-requires-clause-above c =
    let next : c.args.opened.channel ≡ c.self.inside.opened + 1 = c.requires.opening.next ∙ sym (ap (λ table. table.opened + 1) c.self.view_is) in
    subst (λ id. AllByRecursion (λ e. e.0 < id) (by_id c.self.inside.channels.entries)) (sym next)
    (all-weaken (λ e. e.0 ≤ c.self.inside.opened) (λ e. e.0 < c.self.inside.opened + 1) (λ e below. omega (arith, below)) (by_id c.self.inside.channels.entries)
    c.self.invariant.0.ids)

pub invariant_of-self : goal.invariant_of-self
invariant_of-self c =
    let entries : List (ℕ × Channel) = by_id c.self.inside.channels.entries in
    let channel : Channel = record {
      session = c.args.session;
      kind = c.args.kind;
      account = c.args.account;
      lead = c.args.opened.lead;
      opening_class = c.args.opened.class;
      class = c.args.opened.class;
      settings = c.new.result;
      standard_is_whole = c.requires.opening.whole;
    } in
    let put : by_id c.put_channel.new.channels.entries ≡ entries ++ (c.args.opened.channel, channel) ∷ [] =
    c.put_channel.ensures ∙ ap (λ k. entries ++ (c.args.opened.channel, k) ∷ []) (sym (same-facts channel _)) in
    let next : c.args.opened.channel ≡ c.self.inside.opened + 1 = c.requires.opening.next ∙ sym (ap (λ table. table.opened + 1) c.self.view_is) in
    let free : is_free (leads_of entries) c.args.opened.lead ≡ true =
    lowest-free entries c.args.opened.lead
    (ap (lowest (length c.args.opened.lead)) (sym (leads-shown entries))
    ∙ ap (λ table. lowest (length c.args.opened.lead) (map (λ channel. channel.lead) table.open_channels)) c.self.view_is ∙ c.requires.opening.lead_is) in
    let few : length (own_ids c.args.session entries) < 1024 =
    few-shown c.args.session c.self.inside.opened entries
    (ap (λ table. has_too_many_among table.open_channels table.opened c.args.session) c.self.view_is ∙ c.requires.opening.few) in
    subst (λ es. AreKept c.args.opened.channel es c.hold.new.space.held × ListsChannels c.list_opening.new.lists.entries es) (sym put) (
      subst (λ id. AreKept id (entries ++ (id, channel) ∷ []) c.hold.new.space.held) (sym next)
          (joined-kept c.self.inside.opened entries c.self.inside.space.held c.hold.new.space.held channel refl c.new.ensures free c.hold.ensures
          c.self.invariant.0),
      joined-listed c.self.inside.lists.entries c.list_opening.new.lists.entries entries (c.args.opened.channel, channel) c.list_opening.ensures few
          c.self.invariant.1,
    )

pub returns-clause-told : goal.returns-clause-told
returns-clause-told c at is_asked moves told =
    let entries : List (ℕ × Channel) = by_id c.self.inside.channels.entries in
    let channel : Channel = record {
      session = c.args.session;
      kind = c.args.kind;
      account = c.args.account;
      lead = c.args.opened.lead;
      opening_class = c.args.opened.class;
      class = c.args.opened.class;
      settings = c.new.result;
      standard_is_whole = c.requires.opening.whole;
    } in
    let put : by_id c.put_channel.new.channels.entries ≡ entries ++ (c.args.opened.channel, channel) ∷ [] =
    c.put_channel.ensures ∙ ap (λ k. entries ++ (c.args.opened.channel, k) ∷ []) (sym (same-facts channel _)) in
    let next : c.args.opened.channel ≡ c.self.inside.opened + 1 = c.requires.opening.next ∙ sym (ap (λ table. table.opened + 1) c.self.view_is) in
    record {
      opened_are = c.requires.opening.next ∙ ap (λ n. n + 1) told.opened_are;
      channels_are =
          all-as is_asked (shown_all (by_id c.put_channel.new.channels.entries)) (c.args.self.now.open_channels ++ shown channel (opened moves + 1) ∷ [])
          (channels_told moves ++ shown channel (opened moves + 1) ∷ [])
          (ap shown_all put ∙ ap (λ id. shown_all (entries ++ (id, channel) ∷ [])) next
          ∙ shown-joined c.self.inside.opened entries channel c.new.ensures
          ∙ ap (λ table. table.open_channels ++ shown channel (table.opened + 1) ∷ []) c.self.view_is
          ∙ ap (λ n. c.args.self.now.open_channels ++ shown channel (n + 1) ∷ []) told.opened_are)
          (all-joined is_asked c.args.self.now.open_channels (channels_told moves) (shown channel (opened moves + 1)) (shown channel (opened moves + 1))
          told.channels_are (answers-self is_asked (shown channel (opened moves + 1))));
    } where
      shown : Channel → ℕ → OpenChannel
      shown channel id =
          record {
            id = id;
            session = channel.session;
            kind = channel.kind;
            account = channel.account;
            lead = channel.lead;
            opening_class = channel.opening_class;
            sets = [];
          }
