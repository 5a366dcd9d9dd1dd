use Rattle.ledger_audit.proofs.Taken.{no_magic_of}
use Rattle.ledger_audit.proofs.records.Records.behind.Goals as goal

pub returns-in-None-clause-none : goal.returns-in-None-clause-none
returns-in-None-clause-none c = no_magic_of c.args.magic.now c.requires.eight c.in-None.ensures.none
