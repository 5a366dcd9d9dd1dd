-- What the adapters tell, and what they do over a reader or a writer that tells its bytes, as one in
-- memory does.
use Rattle.std.specs.Prelude.{ℕ, List, [], take, Option, None}
use Rattle.std.specs.Io.KnownBytes.{Consumes, Keeps, IsAtEnd}
use Rattle.ledger_disk.specs.Calls.{DiskSeen}
use Rattle.pool_io.specs.Seen.{KeeperSeen, SinkSeen, SourceSeen}
use Rattle.pool_io.specs.declared.source.Took.{Took}
use Rattle.pool_io.specs.declared.source.Took.TheVariants.{Bytes, End, Idle, Failed}

-- the bytes that were taken are the reader's next ones, End comes only at its end, and else nothing
-- was taken
abbrev pub ReadsOn : Option (List ℕ) → Option (List ℕ) → Took → List ℕ → Type 0
ReadsOn old new (Bytes n) buffer = Consumes old new (take n buffer)
ReadsOn old new End buffer = Consumes old new [] × IsAtEnd new
ReadsOn old new Idle buffer = Keeps old new
ReadsOn old new Failed buffer = Keeps old new

-- streams and files tell nothing but how often they failed
abbrev pub untold_source : ℕ → SourceSeen
untold_source faults = record { faults = faults; left = None }

abbrev pub untold_sink : ℕ → SinkSeen
untold_sink faults = record { faults = faults; held = None }

abbrev pub untold_keeper : ℕ → KeeperSeen
untold_keeper faults = record { faults = faults; records = None; stored = None }

abbrev pub untold_disk : ℕ → DiskSeen
untold_disk faults = record { faults = faults; log = None }
