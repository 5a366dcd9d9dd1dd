use Rattle.std.proofs.Common.{◌≡◌, ℕ, ◌+◌, ◌≤◌, length, None, Some, List, ap, subst, sym, ◌∙◌}
use Rattle.pool_history.specs.Refusing.{count_among, lead_among, lead_length}
use Rattle.pool_history.specs.Spaces.{lowest}
use Rattle.channels.specs.contracts.table.Channels.{the_view}
use Rattle.channels.specs.declared.channel.Channel.{Channel}
use Rattle.channels.specs.Plans.{IsNextOpening, opening_on}
use Rattle.channels.specs.Orders.{by_id}
use Rattle.channels.proofs.OwnChannels.{count-shown}
use Rattle.channels.proofs.Joining.{held-lowest}
use Rattle.channels.proofs.Lookups.{shown_all}
use Rattle.channels.proofs.Offering.{on-lead, on-next, on-none, on-refusal}
use Rattle.channels.proofs.table.Channels.opening.Goals as goal

pub count_of-count-requires : goal.count_of-count-requires
count_of-count-requires c =
    subst (λ l. length l ≤ 1024) (sym (c.self.invariant.1.listed c.args.session)) (c.self.invariant.1.few c.args.session)

pub returns-in-Some-clause-value : goal.returns-in-Some-clause-value
returns-in-Some-clause-value c =
    let entries : List (ℕ × Channel) = by_id c.self.inside.channels.entries in
    let count : count_among (shown_all entries) c.args.session ≡ c.count_of-count.result =
    count-shown c.args.session entries ∙ sym (ap length (c.self.invariant.1.listed c.args.session)) ∙ sym c.count_of-count.ensures in
    on-refusal (the_view c.self.inside) c.args.rules.now c.args.session c.args.ask.now c.in-Some.refusal
    (sym c.in-Some.is ∙ c.opening_refusal.ensures.refusal (shown_all entries) c.args.session count)
    ∙ ap (λ table. opening_on table c.args.rules.now c.args.session c.args.ask.now) c.self.view_is

pub returns-in_default-lowest-clause-value : goal.returns-in_default-lowest-clause-value
returns-in_default-lowest-clause-value c =
    let entries : List (ℕ × Channel) = by_id c.self.inside.channels.entries in
    let count : count_among (shown_all entries) c.args.session ≡ c.count_of-count.result =
    count-shown c.args.session entries ∙ sym (ap length (c.self.invariant.1.listed c.args.session)) ∙ sym c.count_of-count.ensures in
    let lead : lead_among (shown_all entries) c.args.ask.now ≡ None =
    sym (held-lowest (lead_length c.args.ask.now.kind c.args.ask.now.min_size) entries c.self.inside.space.held c.self.invariant.0.holds.leads)
    ∙ ap (λ n. lowest n c.self.inside.space.held) (sym c.lead_len.ensures.value) ∙ sym c.lowest.ensures ∙ c.in_default-lowest.is in
    on-none (the_view c.self.inside) c.args.rules.now c.args.session c.args.ask.now
    (sym c.in_default.is ∙ c.opening_refusal.ensures.refusal (shown_all entries) c.args.session count) lead
    ∙ ap (λ table. opening_on table c.args.rules.now c.args.session c.args.ask.now) c.self.view_is

pub returns-clause-value : goal.returns-clause-value
returns-clause-value c =
    let entries : List (ℕ × Channel) = by_id c.self.inside.channels.entries in
    let count : count_among (shown_all entries) c.args.session ≡ c.count_of-count.result =
    count-shown c.args.session entries ∙ sym (ap length (c.self.invariant.1.listed c.args.session)) ∙ sym c.count_of-count.ensures in
    let lead : lead_among (shown_all entries) c.args.ask.now ≡ Some c.in-Some-lowest.lead =
    sym (held-lowest (lead_length c.args.ask.now.kind c.args.ask.now.min_size) entries c.self.inside.space.held c.self.invariant.0.holds.leads)
    ∙ ap (λ n. lowest n c.self.inside.space.held) (sym c.lead_len.ensures.value) ∙ sym c.lowest.ensures ∙ c.in-Some-lowest.is in
    on-lead (the_view c.self.inside) c.args.rules.now c.args.session c.args.ask.now c.in-Some-lowest.lead c.class_given.result
    (sym c.in_default.is ∙ c.opening_refusal.ensures.refusal (shown_all entries) c.args.session count) lead c.class_given.ensures
    ∙ ap (λ table. opening_on table c.args.rules.now c.args.session c.args.ask.now) c.self.view_is

pub returns-clause-next : goal.returns-clause-next
returns-clause-next c =
    let entries : List (ℕ × Channel) = by_id c.self.inside.channels.entries in
    let count : count_among (shown_all entries) c.args.session ≡ c.count_of-count.result =
    count-shown c.args.session entries ∙ sym (ap length (c.self.invariant.1.listed c.args.session)) ∙ sym c.count_of-count.ensures in
    let lead : lead_among (shown_all entries) c.args.ask.now ≡ Some c.in-Some-lowest.lead =
    sym (held-lowest (lead_length c.args.ask.now.kind c.args.ask.now.min_size) entries c.self.inside.space.held c.self.invariant.0.holds.leads)
    ∙ ap (λ n. lowest n c.self.inside.space.held) (sym c.lead_len.ensures.value) ∙ sym c.lowest.ensures ∙ c.in-Some-lowest.is in
    subst (λ table. IsNextOpening table c.args.session c.args.ask.now.kind (record { channel = c.self.inside.opened + 1; class = c.class_given.result; lead = c.in-Some-lowest.lead }))
    c.self.view_is
    (on-next (the_view c.self.inside) c.args.rules.now c.args.session c.args.ask.now c.in-Some-lowest.lead c.class_given.result
    (sym c.in_default.is ∙ c.opening_refusal.ensures.refusal (shown_all entries) c.args.session count) lead)
