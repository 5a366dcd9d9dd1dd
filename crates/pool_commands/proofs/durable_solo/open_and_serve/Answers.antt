use Rattle.std.proofs.Common.{inl}
use Rattle.pool_io.specs.Lending.{lent_one}
use Rattle.ledger_disk.specs.Disks.{names_and}
use Rattle.pool_commands.proofs.Kept.{given_lent}
use Rattle.pool_commands.proofs.durable_solo.open_and_serve.Goals as goal

pub returns-in-Ok-clause-row : goal.returns-in-Ok-clause-row
returns-in-Ok-clause-row g c =
    let old = g.V.Disks.seen c.args.disks.now in
    let new = g.V.Disks.seen c.open_disk.new.self in
    inl (
      g.V.Z.Disk.seen c.in-Ok.disk,
      new,
      record {
        opened = c.in-Ok.ensures.told;
        lent = given_lent old new (names_and old.calls c.args.ledger_name.now) (lent_one old.disks) c.in-Ok.ensures.stays c.in-Ok.ensures.called c.in-Ok.ensures.lent;
      },
      c.serve_session.ensures.row,
    )
