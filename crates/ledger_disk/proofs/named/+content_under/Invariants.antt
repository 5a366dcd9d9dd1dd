use Rattle.std.proofs.Common.{length}
use Rattle.ledger_disk.proofs.named.+content_under.Given as goal

abbrev pub decreases-content_under : goal.decreases-content_under
decreases-content_under l = length l.named.now
