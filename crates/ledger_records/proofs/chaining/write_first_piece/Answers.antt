use Rattle.std.proofs.Common.{ℕ, List, ◌++◌, sym, ap, ◌∙◌, append-nil}
use Rattle.ledger_records.specs.Pieces.{first_piece}
use Rattle.ledger_records.proofs.chaining.write_first_piece.Goals as goal

pub returns-in-Ok-clause-ok : goal.returns-in-Ok-clause-ok
returns-in-Ok-clause-ok c =
    c.in-Ok.ensures.ok ∙ ap (λ (piece : List ℕ). c.args.out.now.items ++ piece) (sym (append-nil (first_piece c.args.event.now)))
