use Rattle.std.proofs.Common.{◌≡◌, ℕ, Bool, List, filter, not, ap, subst, sym, ◌∙◌}
use Rattle.std.proofs.Math.Dec.{eqb}
use Rattle.pool_history.specs.Channels.{OpenChannel, channels_told}
use Rattle.channels.specs.declared.channel.Channel.{Channel}
use Rattle.channels.specs.Orders.{by_id}
use Rattle.channels.specs.Tables.{AreKept, HoldsLeads, ListsChannels, without_ids, without_session}
use Rattle.channels.proofs.Cuts.{all-as, all-filtered}
use Rattle.channels.proofs.Leaving.{left-kept, shown-left, without-own}
use Rattle.channels.proofs.Lookups.{shown_all}
use Rattle.channels.proofs.Ordering.{distinct-rising, rising-by_id}
use Rattle.channels.proofs.OwnChannels.{left-listed}
use Rattle.channels.proofs.table.Channels.leave.Goals as goal

pub close_all-requires : goal.close_all-requires
close_all-requires c = c.self.invariant.0.holds

pub invariant_of-self : goal.invariant_of-self
invariant_of-self c =
    let entries : List (ℕ × Channel) = by_id c.self.inside.channels.entries in
    let left : by_id c.close_all.new.channels.entries ≡ without_session c.args.session entries =
    c.close_all.ensures.closed
    ∙ ap (λ ids. without_ids ids entries) (c.take_list-ids.ensures.taken ∙ c.self.invariant.1.listed c.args.session)
    ∙ without-own c.args.session entries (distinct-rising entries (rising-by_id c.self.inside.channels.entries c.len-count.ensures.unique)) in
    subst (λ es. AreKept c.self.inside.opened es c.close_all.new.space.held × ListsChannels c.take_list-ids.new.lists.entries es) (sym left) (
      left-kept c.self.inside.opened entries c.self.inside.space.held c.close_all.new.space.held c.args.session c.self.invariant.0
          (subst (λ es. HoldsLeads c.close_all.new.space.held es) left c.close_all.ensures.held),
      left-listed c.self.inside.lists.entries c.take_list-ids.new.lists.entries c.args.session entries c.take_list-ids.ensures.others c.self.invariant.1,
    )

pub returns : goal.returns
returns c is_asked moves told =
    let entries : List (ℕ × Channel) = by_id c.self.inside.channels.entries in
    let left : by_id c.close_all.new.channels.entries ≡ without_session c.args.session entries =
    c.close_all.ensures.closed
    ∙ ap (λ ids. without_ids ids entries) (c.take_list-ids.ensures.taken ∙ c.self.invariant.1.listed c.args.session)
    ∙ without-own c.args.session entries (distinct-rising entries (rising-by_id c.self.inside.channels.entries c.len-count.ensures.unique)) in
    let stays : OpenChannel → Bool = λ channel. not (eqb channel.session c.args.session) in
    record {
      opened_are = ap (λ table. table.opened) c.self.view_is ∙ told.opened_are;
      channels_are =
          all-as is_asked (shown_all (by_id c.close_all.new.channels.entries)) (filter stays c.args.self.now.open_channels) (filter stays (channels_told moves))
          (ap shown_all left ∙ shown-left c.args.session entries ∙ ap (λ table. filter stays table.open_channels) c.self.view_is)
          (all-filtered is_asked stays (λ k t one. ap (λ kept. not (eqb kept.session c.args.session)) one.kept_is) c.args.self.now.open_channels
          (channels_told moves) told.channels_are);
    }
