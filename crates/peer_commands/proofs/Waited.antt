-- Nobody had called once more.
use Rattle.std.proofs.Common.{◌≡◌, ℕ, ◌+◌, suc, subst, arith}
use Rattle.pool_network.specs.declared.door.Came.TheVariants as came
use Rattle.pool_network.specs.Doors.{AnswersSo}
use Rattle.pool_network.specs.Seen.{DoorSeen}
use Rattle.peer_commands.specs.Callers.{HasWaited}

one-more : (turns : ℕ) (old before new : DoorSeen) → HasWaited turns old before → AnswersSo before new came.Idle → HasWaited (suc turns) old new
unfolding HasWaited
one-more turns old before new waited last = (before, waited, last)

pub waited-more : (turns : ℕ) (old before new : DoorSeen) → HasWaited turns old before → AnswersSo before new came.Idle → HasWaited (turns + 1) old new
waited-more turns old before new waited last =
    let same : suc turns ≡ turns + 1 = omega arith in subst (λ n. HasWaited n old new) same (one-more turns old before new waited last)
