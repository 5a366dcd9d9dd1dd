use Rattle.std.proofs.Common.{◌≡◌, length, ap, subst, sym, ◌∙◌, ◌<◌}
use Rattle.pool_history.specs.Refusing.{most_enters}
use Rattle.pool_history.specs.Sessions.{Entrance}
use Rattle.pool_tables.specs.Tables.{HasOwnPresents, ShowsSessions, entered_count}
use Rattle.pool_tables.proofs.Following.{Begins, begun-fits, begun-shown}
use Rattle.pool_tables.proofs.table.Sessions.enter.Goals as goal

pub invariant_of-self : goal.invariant_of-self
invariant_of-self c =
    let entered : Entrance = record { worker = c.args.worker; role = c.args.role; flags = c.args.flags } in
    let count_is : c.count-session.result ≡ length c.self.inside.entrances.items = c.count-session.ensures.value ∙ ap entered_count (sym c.self.view_is) in
    subst (λ es. HasOwnPresents es c.begin.new.presents.entries) (sym c.push_entered.ensures)
    (begun-fits c.self.inside.entrances.items c.self.inside.presents.entries _ entered c.self.invariant
    (subst (λ t. entered_count t < most_enters) (sym c.self.view_is) c.requires.few)
    (subst (λ n. Begins c.args.worker n c.self.inside.presents.entries c.begin.new.presents.entries) count_is c.begin.ensures))

pub returns-clause-shown : goal.returns-clause-shown
returns-clause-shown c past shows =
    let entered : Entrance = record { worker = c.args.worker; role = c.args.role; flags = c.args.flags } in
    let count_is : c.count-session.result ≡ length c.self.inside.entrances.items = c.count-session.ensures.value ∙ ap entered_count (sym c.self.view_is) in
    begun-shown c.self.inside.entrances.items _ c.self.inside.presents.entries _ _ _ entered past c.push_entered.ensures
    (subst (λ n. Begins c.args.worker n c.self.inside.presents.entries c.begin.new.presents.entries) count_is c.begin.ensures)
    (subst (λ t. ShowsSessions t past) (sym c.self.view_is) shows)
