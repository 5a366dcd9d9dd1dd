use Rattle.std.proofs.Common.{Some, ◌∷◌, ap, subst, sym, ◌∙◌}
use Rattle.pool_history.specs.declared.events.Event.TheVariants as event
use Rattle.std.specs.Option.{option_map}
use Rattle.std.specs.Prelude.{slice_get}
use Rattle.pool_tables.specs.Tables.{ShowsSessions}
use Rattle.pool_tables.proofs.Following.{ended-shown, unentered-shown}
use Rattle.pool_tables.proofs.table.Sessions.leave.Goals as goal

pub returns-in-Some : goal.returns-in-Some
returns-in-Some c past shows =
    ended-shown c.self.inside.entrances.items c.self.inside.presents.entries c.end.new.presents.entries _ _ c.entered.inside.worker c.args.session past
    c.self.invariant
    (ap (λ t. option_map (λ e. e.worker) (slice_get t.entrances c.args.session)) c.self.view_is
    ∙ ap (option_map (λ e. e.worker)) (sym c.in-Some.ensures) ∙ ap (λ e. Some e.worker) (sym c.entered.view_is))
    c.end.ensures (subst (λ t. ShowsSessions t past) (sym c.self.view_is) shows)

pub returns-in_default : goal.returns-in_default
returns-in_default c past shows =
    subst (λ t. ShowsSessions t (event.Leave c.args.session ∷ past)) c.self.view_is
    (unentered-shown _ c.args.session past c.self.invariant (ap (λ t. slice_get t.entrances c.args.session) c.self.view_is ∙ sym c.in_default.ensures)
    (subst (λ t. ShowsSessions t past) (sym c.self.view_is) shows))
