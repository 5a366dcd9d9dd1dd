use Rattle.std.proofs.Common.{Some, [], ◌∷◌, refl, ap, sym, ◌∙◌}
use Rattle.atomic_table.specs.Table.{rest}
use Rattle.desk.proofs.turn.take_machine.Goals as goal

pub exchange-slot-requires : goal.exchange-slot-requires
exchange-slot-requires g c =
    let there = c.requires.carried.1 in
    (c.requires.board.1, (Some c.requires.carried.0, there ∙ ap (λ l. (0, Some c.requires.carried.0) ∷ l) (sym (ap rest there))))

pub returns-clause-taken : goal.returns-clause-taken
returns-clause-taken g c = (
  c.in-Some.held,
  c.exchange-slot.ensures.2 ∙ ap (λ l. (0, c.exchange-slot.result) ∷ l) (ap rest c.requires.carried.1) ∙ ap (λ x. (0, x) ∷ []) c.in-Some.is,
  refl,
)
