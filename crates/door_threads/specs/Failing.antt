-- What failed outside of a command (this project's own).
use Rattle.std.specs.Prelude.{ℕ, ◌<◌, ◌⊎◌, List, [], ◌∷◌}
use Rattle.pool_base.specs.Counts.{Rose}
use Rattle.pool_io.specs.Hosts.{CameBack}
use Rattle.pool_io.specs.Lending.{Lending}
use Rattle.pool_network.specs.Networks.{GivesNext, NetworkSeen}
use Rattle.pool_network.specs.Seen.{DoorSeen, LinkSeen}

-- one that came back between has failed
abbrev pub HasFailedItem : {A : Type 0} → (A → ℕ) → Lending A → Lending A → Type 0
HasFailedItem {A} faults old new = (item : A) × CameBack old new item × (0 < faults item)

-- the count of one of these doors rose
abbrev pub SomeDoorFailed : List DoorSeen → List DoorSeen → Type 0
SomeDoorFailed [] news = ⊥
SomeDoorFailed (old ∷ olds) [] = ⊥
SomeDoorFailed (old ∷ olds) (new ∷ news) = Rose old.faults new.faults ⊎ SomeDoorFailed olds news

-- the doors that were given came back, and one of them has failed
pub record HasFailedDoor (old new : NetworkSeen) : Type 0 where
  pub doors : List DoorSeen
  pub doors_back : List DoorSeen
  pub opened : GivesNext old.to_open new.to_open doors
  pub lists : CameBack old.doors new.doors doors_back
  pub failed : SomeDoorFailed doors doors_back

-- the link that was given came back, and this count of it rose
pub record HasFailedLink (count : LinkSeen → ℕ) (old new : NetworkSeen) : Type 0 where
  pub link : LinkSeen
  pub link_back : LinkSeen
  pub dialled : GivesNext old.to_dial new.to_dial (link ∷ [])
  pub links : CameBack old.links new.links link_back
  pub failed : Rose (count link) (count link_back)
