use Rattle.std.proofs.Common.{ℕ, List, ap, sym, ◌∙◌}
use Rattle.std.specs.Option.{option_map}
use Rattle.pool_history.specs.Channels.{channel_in}
use Rattle.channels.specs.declared.channel.Channel.{Channel}
use Rattle.channels.specs.Orders.{by_id}
use Rattle.channels.specs.Tables.{kept_channel, kept_of}
use Rattle.channels.proofs.Lookups.{channel_in-shown, lookup-kept}
use Rattle.channels.proofs.table.Channels.channel.Goals as goal

pub returns : goal.returns
returns c =
    let entries : List (ℕ × Channel) = by_id c.self.inside.channels.entries in
    ap (option_map kept_of) c.kept_under.ensures.value
    ∙ lookup-kept entries c.args.channel c.self.invariant.0.classes
    ∙ ap (option_map kept_channel) (sym (channel_in-shown entries c.args.channel))
    ∙ ap (λ table. option_map kept_channel (channel_in table.open_channels c.args.channel)) c.self.view_is
