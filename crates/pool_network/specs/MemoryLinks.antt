-- What contracts see of the link in memory.
use Rattle.pool_io.specs.Memory.{sink_seen, source_seen}
use Rattle.pool_network.specs.Seen.{LinkSeen}
use Rattle.pool_network.specs.declared.memory.link.MemLink.{MemLink}

abbrev pub link_seen : MemLink → LinkSeen
link_seen link = record { source = source_seen link.source; sink = sink_seen link.sink }
