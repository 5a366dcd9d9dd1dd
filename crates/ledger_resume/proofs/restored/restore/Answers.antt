use Rattle.std.proofs.Common.{List, subst}
use Rattle.ledger_resume.specs.Restoring.{IsNextBy, LeadsNowhere}
use Rattle.ledger_resume.proofs.Continued.{first_taken, none_lead, taken_all, taken_more}
use Rattle.ledger_resume.proofs.restored.restore.Goals as goal

pub loop-record-init : goal.loop-record-init
loop-record-init c = record {
  first = c.in-Some.first.now;
  all = c.in-Some.ensures.cases.0;
  taken =
      first_taken c.in-Some.first.now c.in-Some.later.now c.args.records.now c.bytes.result.now c.in-Some-2.restored c.in-Some.ensures.cases.0 c.bytes.ensures
      (rw c.in-Some-2.is at c.in_ok-restored.ensures.some);
}

pub loop-record-preserved : goal.loop-record-preserved
loop-record-preserved c =
    let was = c.loop-record.invariant in
    record {
      first = was.first;
      all = was.all;
      taken =
          rw c.look_ahead.ensures (taken_more was.first c.in-Some.later.now c.args.records.now was.all c.loop-record.record-index c.record-item.result c.loop-record-test.true
          c.record-item.is c.loop-record.restored was.taken c.take.new.self
          (subst (λ b. IsNextBy c.loop-record.restored.history.events b c.take.new.self) c.bytes-in-loop-record.ensures
          (rw c.if-not-branch.false at c.in_ok-take.ensures)));
    }

pub returns-then-not-branch-clause-none : goal.returns-then-not-branch-clause-none
returns-then-not-branch-clause-none c =
    let was = c.loop-record.invariant in
    none_lead was.first c.in-Some.later.now c.args.records.now was.all c.loop-record.record-index c.record-item.result c.loop-record-test.true
    c.record-item.is c.loop-record.restored was.taken
    (subst (LeadsNowhere c.loop-record.restored.history.events) c.bytes-in-loop-record.ensures (rw c.if-not-branch.true at c.in_ok-take.ensures))

pub returns : goal.returns
returns c =
    let was = c.loop-record.invariant in
    record {
      some = taken_all c.loop-record.restored was.first c.in-Some.later.now c.args.records.now c.loop-record.record-index was.all c.loop-record-test.false was.taken;
      none = tt;
    }

pub take-requires : goal.take-requires
take-requires c = c.loop-record.invariant.taken.restored_is
