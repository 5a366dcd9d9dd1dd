use Rattle.std.proofs.Common.{◌↔◌, drop}
use Rattle.pool_base.specs.Lists.{Begins}
use Rattle.ledger_audit.specs.Judging.{in_a_row}
use Rattle.ledger_resume.specs.Refusals.{HaveMagic}
use Rattle.ledger_resume.proofs.refusing.have_magic.Given as goal

abbrev pub invariant-loop-record : goal.invariant-loop-record
invariant-loop-record l = HaveMagic (in_a_row l.records) ↔ Begins l.left (in_a_row (drop l.record-index l.records))
