use Rattle.std.proofs.Common.{ℕ, List, ap, sym, ◌∙◌}
use Rattle.std.specs.Option.{option_map}
use Rattle.pool_history.specs.Channels.{channel_in, channels_in}
use Rattle.channels.specs.declared.channel.Channel.{Channel}
use Rattle.channels.specs.Orders.{by_id}
use Rattle.channels.specs.Tables.{kept_channel, kept_of}
use Rattle.channels.proofs.Closings.{own-kept, own-shown}
use Rattle.channels.proofs.table.Channels.own.Goals as goal

pub returns : goal.returns
returns c =
    let entries : List (ℕ × Channel) = by_id c.self.inside.channels.entries in
    ap (option_map kept_of) c.own_channel.ensures.value
    ∙ own-kept c.args.session c.args.channel entries c.self.invariant.0.classes
    ∙ ap (option_map kept_channel) (sym (own-shown c.args.session c.args.channel entries c.own_channel.ensures.unique))
    ∙ ap (λ table. option_map kept_channel (channel_in (channels_in table.open_channels c.args.session) c.args.channel)) c.self.view_is
