use Rattle.std.proofs.Common.{◌≡◌, take}
use Rattle.ledger_audit.specs.Judging.{in_a_row}
use Rattle.pool_commands.proofs.durable_audit.in_row.Given as goal

abbrev pub invariant-loop-record : goal.invariant-loop-record
invariant-loop-record l = l.row.items ≡ in_a_row (take l.record-index l.records)
