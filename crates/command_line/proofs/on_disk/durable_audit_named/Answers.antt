use Rattle.command_line.proofs.on_disk.durable_audit_named.Goals as goal

pub returns-clause-row : goal.returns-clause-row
returns-clause-row g c = (
  record {
    ledger = c.text-ledger_name.result.now;
    spelled = rw c.text-ledger_name.ensures c.in-Some.ensures.found;
  },
  c.audit_on_disk.ensures.row,
)
