-- What one call does to what is seen of a door (this project's own).
use Rattle.std.specs.Prelude.{◌≡◌, ℕ, ◌+◌, Bool, true, false, List, [], ◌∷◌, ◌++◌, Option, None, Some}
use Rattle.std.specs.Option.{option_map}
use Rattle.pool_io.specs.Outside.{CountsFailure, next_count}
use Rattle.pool_network.specs.declared.door.Arrival.{Arrival}
use Rattle.pool_network.specs.declared.door.Arrival.TheVariants as arrival
use Rattle.pool_network.specs.declared.door.Came.{Came}
use Rattle.pool_network.specs.declared.door.Came.TheVariants as came
use Rattle.pool_network.specs.Seen.{DoorSeen, LinkSeen}

-- an answer, with what is seen of the caller's link
abbrev pub came_seen : {L : Type 0} → (L → LinkSeen) → Came L → Came LinkSeen
came_seen seen (came.Caller link) = came.Caller (seen link)
came_seen seen came.Idle = came.Idle
came_seen seen came.Closed = came.Closed
came_seen seen came.Failed = came.Failed
came_seen seen came.Memory = came.Memory

-- one answer of a door takes the old arrivals to the new ones: it is closed where there are none,
-- and a failure or a lack of memory lets nobody in
abbrev pub ComesFrom : List (Arrival LinkSeen) → List (Arrival LinkSeen) → Came LinkSeen → Type 0
ComesFrom old new (came.Caller link) = old ≡ arrival.Caller link ∷ new
ComesFrom old new came.Idle = old ≡ arrival.Idle ∷ new
ComesFrom old new came.Closed = (old ≡ []) × (new ≡ [])
ComesFrom old new came.Failed = new ≡ old
ComesFrom old new came.Memory = new ≡ old

-- the same of what a door tells, where it tells; one that told nothing tells nothing
abbrev pub ComesNext :
    Option (List (Arrival LinkSeen)) → Option (List (Arrival LinkSeen)) → Came LinkSeen → Type 0
ComesNext None new answer = new ≡ None
ComesNext (Some arrivals) new answer =
    (left : List (Arrival LinkSeen)) × (new ≡ Some left) × ComesFrom arrivals left answer

-- the door failed; lack of memory is no failure
abbrev pub is_failed_asking : Came LinkSeen → Bool
is_failed_asking came.Failed = true
is_failed_asking _ = false

-- a caller's connection is out
abbrev pub out_after : ℕ → Came LinkSeen → ℕ
out_after count (came.Caller link) = count + 1
out_after count _ = count

-- a connection came back, behind the others, where these are told
abbrev pub back_with : Option (List LinkSeen) → LinkSeen → Option (List LinkSeen)
back_with back link = option_map (λ links. links ++ link ∷ []) back

-- a door was asked once, and answered so
pub record AnswersSo (old new : DoorSeen) (answer : Came LinkSeen) : Type 0 where
  pub comes : ComesNext old.coming new.coming answer
  pub out : new.out ≡ out_after old.out answer
  pub back : new.back ≡ old.back
  pub counts : CountsFailure (is_failed_asking answer) old.faults new.faults
  pub asked : new.asked ≡ next_count old.asked

-- a link was handed back to it
pub record TakesBack (old new : DoorSeen) (link : LinkSeen) : Type 0 where
  pub back : new.back ≡ back_with old.back link
  pub coming : new.coming ≡ old.coming
  pub out : old.out ≡ new.out + 1
  pub faults : new.faults ≡ old.faults
  pub asked : new.asked ≡ old.asked
