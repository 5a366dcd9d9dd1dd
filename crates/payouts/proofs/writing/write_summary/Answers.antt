use Rattle.std.proofs.Common.{◌++◌, ◌∙◌, ap}
use Rattle.pool_history.specs.Summary.{summary_text}
use Rattle.payouts.proofs.Summed.{told}
use Rattle.payouts.proofs.writing.write_summary.Goals as goal

pub returns-in-Ok-clause-told : goal.returns-in-Ok-clause-told
returns-in-Ok-clause-told c = λ past is entered long.
    c.in-Ok.ensures.ok ∙ ap (λ sums. c.args.out.now.items ++ summary_text sums) (told c.args.sessions c.args.events c.args.tally.now past is entered long)
