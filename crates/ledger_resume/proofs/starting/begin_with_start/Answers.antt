use Rattle.ledger_resume.proofs.StartOf.{records_tell}
use Rattle.ledger_resume.proofs.starting.begin_with_start.Goals as goal

pub returns : goal.returns
returns c =
    records_tell c.args.rules c.in-Some.first.now c.in-Some._later.now c.args.records.now c.bytes.result.now c.is_piece_of_start.result c.in-Some.ensures.cases.0 c.bytes.ensures
    c.is_piece_of_start.ensures.kept c.is_piece_of_start.ensures.same
