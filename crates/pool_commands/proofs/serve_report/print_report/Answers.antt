use Rattle.pool_commands.proofs.serve_report.print_report.Goals as goal

pub returns-in-Ok : goal.returns-in-Ok
returns-in-Ok g c = rw (c.deref.ensures.value, c.in-Ok.ensures) at c.print_text.ensures
