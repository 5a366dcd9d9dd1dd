use Rattle.std.proofs.Common.{Ok, Err, refl}
use Rattle.pool_commands.proofs.DurableReasons.{row_of}
use Rattle.pool_commands.proofs.durable_serve.serve_on_disk.Goals as goal

pub returns-in-Ok-clause-row : goal.returns-in-Ok-clause-row
returns-in-Ok-clause-row g c =
    row_of (Ok c.in-Ok.settings, g.H.Host.seen c.open_settings.new.host, c.in-Ok.ensures, c.serve_with_disk.ensures.row)

pub returns-in-Err-clause-row : goal.returns-in-Err-clause-row
returns-in-Err-clause-row g c =
    row_of (Err c.in-Err.no_settings, g.H.Host.seen c.open_settings.new.host, c.in-Err.ensures, (refl, c.status.ensures))
