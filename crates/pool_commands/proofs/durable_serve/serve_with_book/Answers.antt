use Rattle.std.proofs.Common.{inr, refl}
use Rattle.ledger_resume.specs.declared.cause.NoBook.TheVariants as none
use Rattle.pool_commands.proofs.durable_serve.serve_with_book.Goals as goal

-- there was no memory for the terms
pub returns-in_default-clause-row : goal.returns-in_default-clause-row
returns-in_default-clause-row g c = inr (record {
  cause = none.Memory;
  back = g.V.Z.Disk.seen c.args.disk;
  none = inr (refl, refl);
  host = refl;
  network = refl;
  disks = c.done_disk.ensures.back;
  answered = refl;
})
