use Rattle.std.proofs.Common.{Err, subst, sym}
use Rattle.ledger_disk.specs.Moments.{last_content}
use Rattle.ledger_disk.proofs.Crashes.{write_done}
use Rattle.ledger_disk.specs.declared.steps.PutFailed.{PutFailed}
use Rattle.ledger_disk.specs.Steps.{LogsPut}
use Rattle.ledger_disk.proofs.Putting.{put_failed}
use Rattle.ledger_disk.proofs.steps.put.Goals as goal

pub returns-in-Ok-sync-clause-does : goal.returns-in-Ok-sync-clause-does
returns-in-Ok-sync-clause-does g c = λ log is. (c.in-Ok-sync.ensures).does _ ((c.in-Ok.ensures).does log is)

pub returns-in-Err-sync-clause-does : goal.returns-in-Err-sync-clause-does
returns-in-Err-sync-clause-does g c = λ log is.
    (_, write_done c.args.at c.args.bytes.now (last_content log) (c.requires log is), (c.in-Err-sync.ensures).does _ ((c.in-Ok.ensures).does log is))

pub returns-in-Err-clause-does : goal.returns-in-Err-clause-does
returns-in-Err-clause-does g c = λ log is.
    subst (λ (e : PutFailed). LogsPut c.args.at c.args.bytes.now (Err e) log (g.D.Disk.seen c.write_at.new.self).log) (sym c.write_failed.ensures)
    (put_failed c.in-Err.error c.args.at c.args.bytes.now log _ ((c.in-Err.ensures).does log is))
