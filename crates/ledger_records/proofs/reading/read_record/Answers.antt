use Rattle.std.proofs.Common.{ℕ, List, Err, arith, take, get_or, subst}
use Rattle.ledger_records.specs.Bodies.{DecidesBody, IsBodyOf}
use Rattle.ledger_records.proofs.AtFront.{len_of, read_as, not_refused, not_read_as, no_record}
use Rattle.ledger_records.proofs.reading.read_record.Goals as goal

pub returns-in-Ok-clause-only : goal.returns-in-Ok-clause-only
returns-in-Ok-clause-only c = λ one more can is.
    read_as c.in-Ok.event one more c.args.bytes.now
    (subst (λ (x : List ℕ). IsBodyOf (get_or c.args.bytes.now 0 0) (take (len_of c.args.bytes.now) x) c.in-Ok.event) c.split_at.ensures.back c.in-Ok.ensures) can is

pub returns-in-Ok-clause-refused : goal.returns-in-Ok-clause-refused
returns-in-Ok-clause-refused c =
    not_refused c.args.bytes.now c.in-Ok.event (λ i. omega (arith, c.type_inv.bytes i)) c.in-len4-up.len_at_least c.if-len-gt-BODY_LIMIT.false
    (omega (arith, c.if-rest-len.false, c.split_at.ensures.back_len))
    (subst (λ (x : List ℕ). IsBodyOf (get_or c.args.bytes.now 0 0) (take (len_of c.args.bytes.now) x) c.in-Ok.event) c.split_at.ensures.back c.in-Ok.ensures)

pub returns-in-Err-clause-only : goal.returns-in-Err-clause-only
returns-in-Err-clause-only c = λ one more can is.
    not_read_as one more c.args.bytes.now c.in-Err.error
    (subst (λ (x : List ℕ). DecidesBody (get_or c.args.bytes.now 0 0) (take (len_of c.args.bytes.now) x) (Err c.in-Err.error)) c.split_at.ensures.back c.in-Err.ensures) can is

pub returns-in-Err-clause-no_record : goal.returns-in-Err-clause-no_record
returns-in-Err-clause-no_record c = λ is.
    no_record c.args.bytes.now c.in-Err.error c.in-len4-up.len_at_least (omega (arith, c.if-rest-len.false, c.split_at.ensures.back_len))
    (subst (λ (x : List ℕ). DecidesBody (get_or c.args.bytes.now 0 0) (take (len_of c.args.bytes.now) x) (Err c.in-Err.error)) c.split_at.ensures.back c.in-Err.ensures)
    is
