use Rattle.std.proofs.Common.{◌++◌, ap, sym, take, ◌∙◌}
use Rattle.std.proofs.lemmas.List.{take_all}
use Rattle.ledger_audit.specs.Judging.{in_a_row}
use Rattle.ledger_audit.proofs.Judged.{row_more}
use Rattle.pool_commands.proofs.durable_audit.in_row.Goals as goal

pub loop-record-preserved : goal.loop-record-preserved
loop-record-preserved c =
    let records = c.args.records.now in
    let i = c.loop-record.record-index in
    c.in-Ok.ensures ∙ ap (λ b. b ++ c.bytes.result.now) c.loop-record.invariant ∙ ap (λ b. in_a_row (take i records) ++ b) c.bytes.ensures
    ∙ sym (row_more records i c.record-item.result c.loop-record-test.true c.record-item.is)

pub returns : goal.returns
returns c =
    c.loop-record.invariant ∙ ap in_a_row (take_all c.loop-record.record-index c.args.records.now c.loop-record-test.false)
