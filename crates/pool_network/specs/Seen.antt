-- What contracts see of links and doors (this project's own).
use Rattle.std.specs.Prelude.{ℕ, List, Option}
use Rattle.pool_io.specs.Seen.{SinkSeen, SourceSeen}
use Rattle.pool_network.specs.declared.door.Arrival.{Arrival}

-- a link is a source and a sink
pub record LinkSeen : Type 0 where
  pub source : SourceSeen
  pub sink : SinkSeen

-- a door
pub record DoorSeen : Type 0 where
  -- how often it has failed, and how often it was asked
  pub faults : ℕ
  pub asked : ℕ
  -- the answers still to come, where it tells them
  pub coming : Option (List (Arrival LinkSeen))
  -- how many links are out, and those that came back, in their order, where it tells them
  pub out : ℕ
  pub back : Option (List LinkSeen)
