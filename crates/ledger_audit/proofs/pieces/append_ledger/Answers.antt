use Rattle.std.proofs.Common.{◌∙◌, ap, length, sym}
use Rattle.std.proofs.lemmas.Bool.{eqb-false, eqb-true}
use Rattle.std.proofs.lemmas.List.{nil_from_length}
use Rattle.ledger_audit.proofs.Cut.{keeps_ledger, keeps_magic}
use Rattle.ledger_audit.proofs.pieces.append_ledger.Goals as goal

pub returns-then-is_empty-clause-kept : goal.returns-then-is_empty-clause-kept
returns-then-is_empty-clause-kept g c = λ history ledger.
    let split = c.split_magic-format.result in
    keeps_magic split.0 c.args.bytes.now split.1.now c.as_slice.result.now (g.K.Keeper.seen c.args.keeper.now).records (g.K.Keeper.seen c.append.new.self).records
    c.split_magic-format.ensures (nil_from_length split.1.now (eqb-true (length split.1.now) 0 (sym c.is_empty.ensures ∙ c.if-is_empty.true)))
    c.as_slice.ensures c.in_ok-append.ensures.kept history ledger

pub returns-clause-kept : goal.returns-clause-kept
returns-clause-kept g c =
    let split = c.split_magic-format.result in
    keeps_ledger split.0 c.args.bytes.now split.1.now (g.K.Keeper.seen c.args.keeper.now).records (g.K.Keeper.seen c.append_records.new.keeper).records
    c.append_records.result c.split_magic-format.ensures
    (λ none. eqb-false (length split.1.now) 0 (sym c.is_empty.ensures ∙ c.if-is_empty.false) (ap length none)) c.append_records.ensures.kept
