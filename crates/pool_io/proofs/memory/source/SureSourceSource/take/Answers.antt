use Rattle.std.proofs.Common.{◌≡◌, ℕ, List, ◌+◌, ◌-◌, ◌≤◌, ◌<◌, ◌∷◌, length, drop, take, refl, ap, ◌∙◌, arith, length-take, length-drop}
use Rattle.pool_io.proofs.TakingLemmas.{first_at, takes_all, takes_part}
use Rattle.pool_io.specs.declared.turn.Turn.TheVariants.{Piece}
use Rattle.pool_io.proofs.memory.source.SureSourceSource.take.Goals as goal
use Rattle.pool_io.proofs.memory.source.SureSourceSource.take.Goals.{In-Piece}

-- the piece is the first of the turns that are left
first_turn : (c : In-Piece) → drop c.self.inside.next c.self.inside.turns.items ≡ Piece c.in-Piece.piece ∷ drop (c.self.inside.next + 1) c.self.inside.turns.items
first_turn c =
    let lookup = c.in-Some.ensures.lookup in
    let within : c.self.inside.next < length c.self.inside.turns.items = rw (← c.deref.ensures.value) lookup.3.0 in
    let at = rw c.deref.ensures.value at lookup.1 in
    first_at c.self.inside.turns.items c.self.inside.next c.in-Some.turn.now within at ∙ ap (λ t. t ∷ drop (c.self.inside.next + 1) c.self.inside.turns.items) c.in-Piece.is

-- how much of the piece is left
rest_length : (taken : ℕ) (piece : List ℕ) → length (take (length piece - taken) (drop taken piece)) ≡ length piece - taken
rest_length taken piece = simp (length-take, length-drop) (omega arith)

pub returns-then-count-rest-clause-turns : goal.returns-then-count-rest-clause-turns
returns-then-count-rest-clause-turns c =
    let first = first_turn (goal.at-returns-then-count-rest-clause-turns c).In-Piece in
    let piece_is = c.bytes.ensures.value in
    let copies = rw piece_is at c.copy_from_slice.ensures.after in
    let all = rw (piece_is, rest_length c.self.inside.taken c.in-Piece.piece) at c.if-count-rest.true in
    let enough : c.min-count.result ≤ length c.in-Piece.piece - c.self.inside.taken = omega (arith, all) in
    (_, refl, rw (← c.self.view_is) (takes_all c.self.inside.taken c.self.inside.next c.min-count.result c.self.inside.turns.items c.in-Piece.piece c.copy_from_slice.new.self _ first copies enough all))

pub returns-else-count-rest-clause-turns : goal.returns-else-count-rest-clause-turns
returns-else-count-rest-clause-turns c =
    let first = first_turn (goal.at-returns-else-count-rest-clause-turns c).In-Piece in
    let piece_is = c.bytes.ensures.value in
    let copies = rw piece_is at c.copy_from_slice.ensures.after in
    let count = rw (piece_is, rest_length c.self.inside.taken c.in-Piece.piece) at c.min-count.ensures in
    let other = rw (piece_is, rest_length c.self.inside.taken c.in-Piece.piece) at c.if-count-rest.false in
    let enough : c.min-count.result ≤ length c.in-Piece.piece - c.self.inside.taken = omega (arith, count) in
    let part : c.min-count.result < length c.in-Piece.piece - c.self.inside.taken = omega (arith, count, other) in
    (_, refl, rw (← c.self.view_is) (takes_part c.self.inside.taken c.self.inside.next c.min-count.result c.self.inside.turns.items c.in-Piece.piece c.copy_from_slice.new.self _ first copies enough part))
