use Rattle.std.proofs.Common.{rules, Some, ◌∷◌, ap, ◌∙◌, arith}
use Rattle.atomic_table.specs.Table.{rest}
use Rattle.desk.proofs.Kept.{puts}
use Rattle.desk.proofs.turn.put_back.Goals as goal

pub store-requires : goal.store-requires
store-requires g c = (
  search rules,
  search rules,
  puts g.M.Machine.answers g.M.Machine.wants_memory g.M.Machine.events g.M.Machine.health _ _ _ c.exchange-slot.new.seat.id c.exchange-slot.new.seat.me c.args.seat.now.me.0 c.args.machine c.args.note
      (c.exchange-slot.ensures.3 ∙ ap (λ l. (c.args.seat.now.me.0, (0, Some (record { machine = c.args.machine; note = Some c.args.note })) ∷ l)) (ap rest c.requires.carried))
      c.requires.board.0.1 c.requires.call _ (let e = c.requires.count.0 in omega arith),
)
