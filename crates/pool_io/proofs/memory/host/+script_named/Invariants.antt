use Rattle.std.proofs.Common.{length}
use Rattle.pool_io.proofs.memory.host.+script_named.Given as goal

abbrev pub decreases-script_named : goal.decreases-script_named
decreases-script_named l = length l.files.now
