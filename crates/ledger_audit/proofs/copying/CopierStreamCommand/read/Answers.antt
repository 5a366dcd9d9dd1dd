use Rattle.std.proofs.Common.{◌++◌, ◌∙◌, ap}
use Rattle.ledger_audit.proofs.copying.CopierStreamCommand.read.Goals as goal

pub returns-clause-ok : goal.returns-clause-ok
returns-clause-ok c = λ bytes given few copied. record {
  audited = c.in_ok-read.ensures.ok bytes given few copied.audited;
  kept = c.in_ok-extend_from_slice.ensures.items ∙ ap (λ b. b ++ c.args.piece.now) copied.kept;
}
