use Rattle.std.proofs.Common.{◌≡◌, ap, sym, ◌∙◌, subst, arith}
use Rattle.std.proofs.lemmas.List.Elements.{recursion_from_All}
use Rattle.std.specs.List.{Contains}
use Rattle.desk.specs.Closing.{HasClosed}
use Rattle.desk.proofs.Joined.{has-closed}
use Rattle.desk.proofs.Missing.{some-there}
use Rattle.desk.proofs.desk.Desk.close.Goals as goal

pub join_all-seat-requires-clause-some : goal.join_all-seat-requires-clause-some
join_all-seat-requires-clause-some g c = some-there (λ pass. pass.worker) c.args.passes.items 0 (c.in_default.ensures 0 c.self.invariant.2)

pub join_all-seat-requires-clause-tables : goal.join_all-seat-requires-clause-tables
join_all-seat-requires-clause-tables g c =
    recursion_from_All (λ pass. pass.table ≡ c.self.inside.table.shared.table_id) c.args.passes.items
    (λ k d less. c.requires k d less ∙ ap (λ desk. desk.table) (sym c.self.view_is))

pub give_up-requires-clause-every : goal.give_up-requires-clause-every
give_up-requires-clause-every g c =
    λ worker less. subst (λ l. Contains l worker) (sym c.join_all-seat.ensures.joined.workers) (c.in_default.ensures worker (let e = c.self.invariant.1 in omega arith))

pub returns : goal.returns
returns g c =
    subst (λ desk. HasClosed g.M.Machine.answers g.M.Machine.wants_memory g.M.Machine.events g.M.Machine.health desk c.args.passes.items c.give_up.result) c.self.view_is
    (has-closed g.M.Machine.answers g.M.Machine.wants_memory g.M.Machine.events g.M.Machine.health _ c.args.passes.items c.join_all-seat.result.me c.give_up.result
    c.in_default.ensures c.join_all-seat.ensures.joined c.give_up.ensures)
