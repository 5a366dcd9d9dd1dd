use Rattle.std.proofs.Common.{Some, ap, sym, ◌∙◌}
use Rattle.std.specs.Option.{option_map}
use Rattle.pool_history.specs.Channels.{channel_in, class_at}
use Rattle.channels.specs.Orders.{by_id}
use Rattle.channels.proofs.Lookups.{class-none, class-shown}
use Rattle.channels.proofs.table.Channels.class_at.Goals as goal

pub returns-in-Some : goal.returns-in-Some
returns-in-Some c =
    ap (λ n. Some n) c.class_at.ensures
    ∙ class-shown (by_id c.self.inside.channels.entries) c.args.channel c.args.live_at c.in-Some.there.now (sym c.in-Some.ensures.value)
    ∙ ap (λ table. option_map (λ shown. class_at shown c.args.live_at) (channel_in table.open_channels c.args.channel)) c.self.view_is

pub returns-in-None : goal.returns-in-None
returns-in-None c =
    class-none (by_id c.self.inside.channels.entries) c.args.channel c.args.live_at (sym c.in-None.ensures.value)
    ∙ ap (λ table. option_map (λ shown. class_at shown c.args.live_at) (channel_in table.open_channels c.args.channel)) c.self.view_is
