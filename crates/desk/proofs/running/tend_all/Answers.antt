use Rattle.std.proofs.Common.{arith}
use Rattle.desk.proofs.Workers.{dealt_long, has_tended, tables_stay, workers_stay}
use Rattle.desk.proofs.running.tend_all.Goals as goal

pub tend_parts-requires-clause-as_many : goal.tend_parts-requires-clause-as_many
tend_parts-requires-clause-as_many g c =
    let long = dealt_long c.requires.opened in
    omega (arith, long, c.args.passes.ok.0, c.requires.as_many)

pub close-machine-requires-clause-desk : goal.close-machine-requires-clause-desk
close-machine-requires-clause-desk g c = tables_stay _ c.requires.opened c.tend_parts.ensures

pub close-machine-requires-clause-complete : goal.close-machine-requires-clause-complete
close-machine-requires-clause-complete g c = workers_stay _ c.requires.opened c.tend_parts.ensures

pub returns : goal.returns
returns g c = has_tended _ c.requires.opened c.tend_parts.ensures (omega (arith, c.args.tasks.ok.0, c.requires.as_many)) c.close-machine.ensures
