use Rattle.std.proofs.Common.{◌≡◌, map, ap, subst, ◌∙◌}
use Rattle.std.specs.Prelude.{IfOk}
use Rattle.pool_history.specs.Channels.{channels_in}
use Rattle.channels.specs.Orders.{by_id}
use Rattle.channels.proofs.Lookups.{ids-shown}
use Rattle.channels.proofs.table.Channels.of_session.Goals as goal

pub returns : goal.returns
returns c =
    subst (λ l. IfOk c.ids_of.result (λ ids. ids.items ≡ l))
    (c.self.invariant.1.listed c.args.session ∙ ids-shown c.args.session (by_id c.self.inside.channels.entries)
    ∙ ap (λ table. map (λ shown. shown.id) (channels_in table.open_channels c.args.session)) c.self.view_is)
    c.ids_of.ensures
