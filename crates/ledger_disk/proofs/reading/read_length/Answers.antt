use Rattle.std.proofs.Common.{arith, drop, length-drop}
use Rattle.ledger_disk.specs.Moments.{last_content}
use Rattle.ledger_disk.proofs.EntriesRead.{few_none}
use Rattle.ledger_disk.proofs.reading.read_length.Goals as goal

pub returns-then-room-lt6-clause-reads : goal.returns-then-room-lt6-clause-reads
returns-then-room-lt6-clause-reads g c = λ log is.
    few_none (drop c.args.at (last_content log)) (omega (arith, c.if-room-lt6.true, c.requires.size log is, length-drop c.args.at (last_content log)))
