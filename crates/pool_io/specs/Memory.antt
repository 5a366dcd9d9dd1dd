-- What contracts see of the sources, sinks and keepers in memory.
use Rattle.std.specs.Prelude.{None, Some}
use Rattle.pool_io.specs.Seen.{KeeperSeen, SinkSeen, SourceSeen}
use Rattle.pool_io.specs.declared.memory.source.MemSource.{MemSource}
use Rattle.pool_io.specs.declared.memory.sink.MemSink.{MemSink}
use Rattle.pool_io.specs.declared.memory.keeper.MemKeeper.{MemKeeper}

-- each tells all of it
abbrev pub source_seen : MemSource → SourceSeen
source_seen s = record { faults = s.failing.faults; left = Some s.source }

abbrev pub sink_seen : MemSink → SinkSeen
sink_seen s = record { faults = s.failing.faults; held = Some s.sink }

abbrev pub keeper_seen : MemKeeper → KeeperSeen
keeper_seen k = record { faults = k.failing.faults; records = Some k.keeper; stored = None }
