use Rattle.std.proofs.Common.{◌+◌, length, ap, refl}
use Rattle.std.proofs.lemmas.Result.{err_from_is_err_and}
use Rattle.ledger_audit.proofs.Taken.{decide_cause, decide_form, decide_hash, one_more}
use Rattle.ledger_audit.proofs.records.Records.take.Goals as goal

pub returns-in_err-event-clause-decides : goal.returns-in_err-event-clause-decides
returns-in_err-event-clause-decides c = λ bytes was.
    let p = err_from_is_err_and c.from_residual.result c.from_residual.ensures.1 in
    rw (p.1, p.2)
    (decide_form c.args.self.now bytes c.args.unit.now was c.requires.whole c.args.self.now c.in_err-event.field-0.0 c.in_err-event.ensures.defect)

pub returns-in_err-hash-clause-decides : goal.returns-in_err-hash-clause-decides
returns-in_err-hash-clause-decides c = λ bytes was.
    let p = err_from_is_err_and c.from_residual-in_err-hash.result c.from_residual-in_err-hash.ensures.1 in
    rw (p.1, p.2)
    (decide_hash c.args.self.now bytes c.args.unit.now was c.requires.whole c.args.self.now c.requires.one c.in_ok-event.event c.in_ok-event.len
    c.in_ok-event.ensures.read c.in_err-hash.field-0.0 (rw (c.split_at.ensures.front, c.split_at.ensures.back) at c.in_err-hash.ensures.broken))

pub returns-in_err-tell-clause-decides : goal.returns-in_err-tell-clause-decides
returns-in_err-tell-clause-decides c = λ bytes was.
    let p = err_from_is_err_and c.from_residual-in_err-tell.result c.from_residual-in_err-tell.ensures.1 in
    rw (p.1, p.2)
    (decide_cause c.args.self.now bytes c.args.unit.now was c.requires.whole c.tell.new.self c.requires.one c.in_ok-event.event c.in_ok-event.len
    c.in_ok-event.ensures.read c.tell.new.self.replay c.in_ok-hash.hash c.in_err-tell.field-0.0
    (rw (c.split_at.ensures.front, c.split_at.ensures.back) at c.in_ok-hash.ensures.chained)
    (c.in_err-tell.ensures.judged was.history was.read.replayed))

pub returns-clause-decides : goal.returns-clause-decides
returns-clause-decides c = λ bytes was.
    let told = c.in_ok-tell.ensures.judged was.history was.read.replayed in
    one_more c.args.self.now bytes c.args.unit.now was c.requires.whole c.requires.one c.in_ok-event.event c.in_ok-event.len c.in_ok-event.ensures.read
    c.in_ok-hash.hash (rw (c.split_at.ensures.front, c.split_at.ensures.back) at c.in_ok-hash.ensures.chained) _
    (ap (λ r. r.format) c.in_ok-tell.ensures.same) (ap (λ r. r.place + length c.args.unit.now) c.in_ok-tell.ensures.same) refl told.0 told.1
