use Rattle.std.proofs.Common.{ℕ, List, sym, ap, ◌∙◌}
use Rattle.pool_history.specs.Ledger.{chain, record_of}
use Rattle.ledger_records.proofs.Growth.{hash-end}
use Rattle.ledger_records.proofs.chaining.write_piece.Goals as goal

pub returns-in-Ok-clause-over : goal.returns-in-Ok-clause-over
returns-in-Ok-clause-over c = λ history is.
    c.in-Ok.ensures.hash ∙ ap (λ (before : List ℕ). chain before (record_of c.args.event.now)) is ∙ sym (hash-end history c.args.event.now)
