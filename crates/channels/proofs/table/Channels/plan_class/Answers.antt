use Rattle.std.proofs.Common.{◌≡◌, ℕ, Some, is_some, List, ap, sym, ◌∙◌}
use Rattle.pool_history.specs.Channels.{OpenChannel, channel_in, channels_in}
use Rattle.pool_history.specs.Conditions.{found}
use Rattle.channels.specs.declared.channel.Channel.{Channel}
use Rattle.channels.specs.declared.plan.ChannelPlan.TheVariants as plan
use Rattle.channels.specs.declared.table.SetError.TheVariants as set
use Rattle.channels.specs.Orders.{by_id}
use Rattle.channels.proofs.Lookups.{shown_all}
use Rattle.channels.proofs.Planning.{none-own, own-open, planned, refused, some-own}
use Rattle.channels.proofs.table.Channels.plan_class.Goals as goal

pub returns-in_default-clause-answer : goal.returns-in_default-clause-answer
returns-in_default-clause-answer c =
    let entries : List (ℕ × Channel) = by_id c.self.inside.channels.entries in
    refused set.Memory set.NotOpen (plan.Class c.args.at c.args.channel c.args.class c.args.span)
    (found set.NotOpen (channel_in (channels_in c.args.self.now.open_channels c.args.session) c.args.channel))
    (ap (found set.NotOpen)
    (sym (ap (λ table. channel_in (channels_in table.open_channels c.args.session) c.args.channel) c.self.view_is)
    ∙ none-own c.args.session c.args.channel entries c.own_lead.ensures.unique (sym c.own_lead.ensures.value ∙ c.in_default.is)))

pub returns-clause-answer : goal.returns-clause-answer
returns-clause-answer c =
    let entries : List (ℕ × Channel) = by_id c.self.inside.channels.entries in
    let own : (channel : OpenChannel) × (channel_in (channels_in (shown_all entries) c.args.session) c.args.channel ≡ Some channel) =
    some-own c.args.session c.args.channel entries c.in-Some._lead c.own_lead.ensures.unique (sym c.own_lead.ensures.value ∙ c.in-Some.is) in
    planned set.Memory own.0 (plan.Class c.args.at c.args.channel c.args.class c.args.span)
    (found set.NotOpen (channel_in (channels_in c.args.self.now.open_channels c.args.session) c.args.channel))
    (ap (found set.NotOpen)
    (sym (ap (λ table. channel_in (channels_in table.open_channels c.args.session) c.args.channel) c.self.view_is) ∙ own.1))

pub make_class_room-requires : goal.make_class_room-requires
make_class_room-requires c =
    ap (λ table. is_some (channel_in table.open_channels c.args.channel)) (sym c.self.view_is)
    ∙ own-open c.args.session c.args.channel (by_id c.self.inside.channels.entries) c.in-Some._lead (sym c.own_lead.ensures.value ∙ c.in-Some.is)
