use Rattle.std.proofs.Common.{◌≡◌, ◌<◌, ◌-◌}
use Rattle.ledger_disk.specs.Calls.{WhereTold}
use Rattle.ledger_disk.specs.Moments.{last_content}
use Rattle.ledger_disk.specs.Steps.{HoldsFront}
use Rattle.ledger_disk.proofs.reading.read_entries.Given as goal

abbrev pub invariant-loop-entries : goal.invariant-loop-entries
invariant-loop-entries g l =
    (l.at < l.size) × ((g.D.Disk.seen l.disk).log ≡ (g.D.Disk.seen l.initial.disk).log) × ((g.D.Disk.seen l.disk).faults ≡ (g.D.Disk.seen l.initial.disk).faults)
    × WhereTold (g.D.Disk.seen l.initial.disk).log (λ log. HoldsFront l.at l.entries.items (last_content log))

abbrev pub decreases-loop-entries : goal.decreases-loop-entries
decreases-loop-entries g l = l.size - l.at
