use Rattle.command_line.proofs.top_call.migrate_named.Goals as goal

pub returns-clause-row : goal.returns-clause-row
returns-clause-row g c = (
  record {
    old_ledger = c.text-old_name.result.now;
    new_ledger = c.text-new_name.result.now;
    spelled = rw (c.text-old_name.ensures, c.text-new_name.ensures) c.in-Some.ensures.found;
  },
  c.migrate_ledger.ensures.row,
)
