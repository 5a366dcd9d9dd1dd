use Rattle.std.proofs.Common.{Some, ap, sym, ◌∙◌, subst}
use mathlib.Core.Option.{some-injective}
use Rattle.std.specs.Option.{unwrap_or}
use Rattle.desk.specs.Closing.{IsOfSeat}
use Rattle.desk.proofs.Closes.{closes}
use Rattle.desk.proofs.close.give_up.Goals as goal

pub unreachable-requires : goal.unreachable-requires
unreachable-requires g c =
    let last = c.close_with-closed.ensures.values.2 in
    let end = closes g.M.Machine.answers g.M.Machine.wants_memory g.M.Machine.events g.M.Machine.health c.args.table.shared.key.start.value c.args.table.shared.key.count last.0 c.args.seat.id c.args.seat.me.0 last.1.0 last.1.1
    c.requires.rests c.requires.every in
    c.in_default.not-Some end.held (some-injective _ _ (sym c.take-slot.ensures.value ∙ last.4 0 (Some end.held) end.there))

pub returns : goal.returns
returns g c =
    let last = c.close_with-closed.ensures.values.2 in
    let end = closes g.M.Machine.answers g.M.Machine.wants_memory g.M.Machine.events g.M.Machine.health c.args.table.shared.key.start.value c.args.table.shared.key.count last.0 c.args.seat.id c.args.seat.me.0 last.1.0 last.1.1
    c.requires.rests c.requires.every in
    let there = some-injective _ _ (sym c.take-slot.ensures.value ∙ last.4 0 (Some end.held) end.there) in
    let same = ap (λ o. unwrap_or o end.held) (sym there ∙ c.in-Some.is) in
    subst (λ h. IsOfSeat g.M.Machine.answers g.M.Machine.wants_memory g.M.Machine.events g.M.Machine.health c.args.table.shared.key.start.value c.args.seat.me.0 h.machine) same end.ends
