use Rattle.std.proofs.Common.{Err, List, ℕ, ◌+◌, ◌++◌, ap, drop, subst, sym, take, ◌∙◌}
use Rattle.std.proofs.lemmas.List.{take_all}
use Rattle.ledger_audit.specs.Auditing.{HasReadBytes}
use Rattle.ledger_audit.specs.Judging.{GoesOnOrHasVerdict, in_a_row}
use Rattle.ledger_audit.specs.Verdicts.{IsVerdictOf}
use Rattle.ledger_audit.proofs.Judged.{row_more, row_rest}
use Rattle.ledger_audit.proofs.judging.judge.Goals as goal

pub loop-piece-init : goal.loop-piece-init
loop-piece-init c = record { between = c.requires.between; read = c.requires.none }

pub loop-piece-preserved : goal.loop-piece-preserved
loop-piece-preserved c =
    let pieces = c.args.pieces.now in
    let i = c.loop-piece.piece-index in
    record {
      between = c.in-Ok.ensures.between;
      read = subst (HasReadBytes c.hear.new.self.records c.hear.new.self.held.items)
          (ap (λ b. in_a_row (take i pieces) ++ b) c.bytes.ensures ∙ sym (row_more pieces i c.piece-item.result c.loop-piece-test.true c.piece-item.is))
          (c.in-Ok.ensures.goes (in_a_row (take i pieces)) c.loop-piece.invariant.read);
    }

pub verdict-requires : goal.verdict-requires
verdict-requires c = c.loop-piece.invariant.between.lacks

pub returns-in-Err-Defect : goal.returns-in-Err-Defect
returns-in-Err-Defect c =
    let pieces = c.args.pieces.now in
    let i = c.loop-piece.piece-index in
    let row = in_a_row (take i pieces) in
    let more = in_a_row (drop (i + 1) pieces) in
    let fits : (more : List ℕ) → IsVerdictOf ((row ++ c.bytes.result.now) ++ more) c.in-Err-Defect.verdict =
    subst (λ told. GoesOnOrHasVerdict c.hear.new.self (row ++ c.bytes.result.now) (Err told)) c.in-Err-Defect.field-0-is
    (c.in-Err-Defect.ensures.goes row c.loop-piece.invariant.read) in
    rw c.in-Err-Defect.field-0-is
    (subst (λ b. IsVerdictOf b c.in-Err-Defect.verdict)
    (ap (λ b. b ++ more) (ap (λ b. row ++ b) c.bytes.ensures ∙ sym (row_more pieces i c.piece-item.result c.loop-piece-test.true c.piece-item.is))
    ∙ row_rest pieces (i + 1))
    (fits more))

pub returns : goal.returns
returns c =
    c.verdict.ensures (in_a_row c.args.pieces.now)
    (subst (HasReadBytes c.loop-piece.auditor.records c.loop-piece.auditor.held.items)
    (ap in_a_row (take_all c.loop-piece.piece-index c.args.pieces.now c.loop-piece-test.false)) c.loop-piece.invariant.read)
