-- What contracts see of sources, sinks and keepers (this project's own).
use Rattle.std.specs.Prelude.{ℕ, List, Option}
use Rattle.pool_io.specs.declared.turn.Turn.{Turn}

-- a source
pub record SourceSeen : Type 0 where
  -- how often it has failed
  pub faults : ℕ
  -- the turns still to come, where it tells them
  pub left : Option (List Turn)

-- a sink
pub record SinkSeen : Type 0 where
  -- how often it has failed
  pub faults : ℕ
  -- the bytes that it has taken, where it tells them
  pub held : Option (List ℕ)

-- a keeper
pub record KeeperSeen : Type 0 where
  -- how often it has failed
  pub faults : ℕ
  -- the records that it keeps, where it tells them
  pub records : Option (List (List ℕ))
  -- at each moment so far, the last one first, how many records were there for good, where it tells
  -- that
  pub stored : Option (List ℕ)
