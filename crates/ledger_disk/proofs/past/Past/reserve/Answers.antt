use Rattle.ledger_disk.proofs.Rooms.{room_kept}
use Rattle.ledger_disk.specs.Moments.{Moment}
use Rattle.std.proofs.Common.{List, vec_capacity, ◌≡◌, ◌⊎◌, ◌∷◌, [], sym, subst}
use Rattle.ledger_disk.specs.Memory.{HaveRoom}
use Rattle.ledger_disk.proofs.past.Past.reserve.Goals as goal

pub invariant_of-self-2 : goal.invariant_of-self-2
invariant_of-self-2 c =
    subst (λ (l : List Moment). (l ≡ []) ⊎ HaveRoom (vec_capacity c.reserve-2.new.self) (c.self.inside.latest ∷ l)) (sym c.reserve.ensures.items)
    (room_kept _ _ c.reserve-2.ensures.capacity c.self.inside.earlier.items c.self.inside.latest c.self.invariant)
