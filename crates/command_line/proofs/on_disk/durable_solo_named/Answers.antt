use Rattle.command_line.proofs.on_disk.durable_solo_named.Goals as goal

pub returns-clause-row : goal.returns-clause-row
returns-clause-row g c = (
  record {
    settings = c.text-settings_name.result.now;
    ledger = c.text-ledger_name.result.now;
    spelled = rw (c.text-settings_name.ensures, c.text-ledger_name.ensures) c.in-Some.ensures.found;
  },
  c.solo_on_disk.ensures.row,
)
