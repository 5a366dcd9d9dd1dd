use Rattle.std.proofs.Common.{length, sym, subst, ◌∙◌}
use Rattle.std.proofs.lemmas.Bool.{eq-eqb, eqb-true}
use Rattle.pool_base.specs.Lists.{Begins}
use Rattle.ledger_audit.specs.Judging.{in_a_row}
use Rattle.ledger_resume.specs.Refusals.{HaveMagic}
use Rattle.ledger_resume.proofs.Cut.{magic_ends, magic_left, magic_more, never}
use Rattle.ledger_resume.proofs.refusing.have_magic.Goals as goal

pub loop-record-init : goal.loop-record-init
loop-record-init c =
    let row = in_a_row c.args.records.now in (
      λ magic. subst (λ l. Begins l row) (sym c.as_slice-left.ensures) magic,
      λ begins. subst (λ l. Begins l row) c.as_slice-left.ensures begins,
    )

pub loop-record-preserved : goal.loop-record-preserved
loop-record-preserved c =
    magic_more (HaveMagic (in_a_row c.args.records.now)) c.args.records.now c.loop-record.record-index c.record-item.result c.bytes-bytes.result.now
    c.loop-record.left.now c.min-count.result c.loop-record-test.true c.record-item.is c.bytes-bytes.ensures c.min-count.ensures
    (c.are_same.ensures.0 c.if-not-are_same.false) c.loop-record.invariant

pub returns-then-not-are_same : goal.returns-then-not-are_same
returns-then-not-are_same c = (
  λ same. absurd (never same),
  λ magic. absurd (magic_ends (HaveMagic (in_a_row c.args.records.now)) c.args.records.now c.loop-record.record-index c.record-item.result c.bytes-bytes.result.now
      c.loop-record.left.now c.min-count.result c.loop-record-test.true c.record-item.is c.bytes-bytes.ensures c.min-count.ensures
      (λ same. never (sym c.if-not-are_same.true ∙ c.are_same.ensures.1 same)) c.loop-record.invariant magic),
)

pub returns : goal.returns
returns c =
    let ends =
    magic_left (HaveMagic (in_a_row c.args.records.now)) c.args.records.now c.loop-record.record-index c.loop-record.left.now c.loop-record-test.false
    c.loop-record.invariant in (
      λ empty. ends.1 (eqb-true (length c.loop-record.left.now) 0 (sym c.is_empty.ensures ∙ empty)),
      λ magic. c.is_empty.ensures ∙ eq-eqb (length c.loop-record.left.now) 0 (ends.0 magic),
    )
