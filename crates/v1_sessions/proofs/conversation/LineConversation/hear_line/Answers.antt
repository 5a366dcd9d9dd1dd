use Rattle.std.proofs.lemmas.Result.{err_from_is_err_and}
use Rattle.v1_sessions.proofs.Moves.{line_alone, line_sent, line_starves, line_unput, says_same}
use Rattle.v1_sessions.proofs.conversation.LineConversation.hear_line.Goals as goal

pub returns-in_default-clause-runs : goal.returns-in_default-clause-runs
returns-in_default-clause-runs g c = λ before rest text unmet some.
    let same = says_same c.args.terms.now c.args.line.now c.args.self.now c.say_to.new.self c.new-lines.result.items c.say_to.new.lines.items c.say_to.result c.say_to.ensures in
    record { intake = before; kept_is = tt; leads = line_starves c.args.terms.now c.args.self.now c.say_to.new.self same before _ }

pub returns-in_err-put_bytes-clause-runs : goal.returns-in_err-put_bytes-clause-runs
returns-in_err-put_bytes-clause-runs g c = λ before rest text unmet some.
    let says = rw c.new-lines.ensures.items at c.in-Ok.ensures in
    let p = err_from_is_err_and c.from_residual.result c.from_residual.ensures.1 in
    rw (p.1, p.2)
    (record {
      intake = record before { unmet = rest };
      kept_is = tt;
      leads = line_unput c.args.terms.now c.args.self.now c.say_to.new.self says.0 before c.args.line.now rest c.say_to.new.lines.items text unmet c.in-Ok.wish says.1 _ c.in_err-put_bytes.field-0.0
          (rw c.deref.ensures.value at c.in_err-put_bytes.ensures);
    })

pub returns-in-Some-clause-runs : goal.returns-in-Some-clause-runs
returns-in-Some-clause-runs g c = λ before rest text unmet some.
    let says = rw c.new-lines.ensures.items at c.in-Ok.ensures in
    line_sent c.args.terms.now c.args.self.now c.say_to.new.self says.0 before c.args.line.now rest c.say_to.new.lines.items text unmet c.in-Ok.wish says.1 c.in-Some.wish c.in-Some.is some
    (rw c.deref.ensures.value at c.in_ok-put_bytes.ensures) c.send.new.self c.send.result (c.send.ensures.runs (record before { unmet = rest }))

pub returns-clause-runs : goal.returns-clause-runs
returns-clause-runs g c = λ before rest text unmet some.
    let says = rw c.new-lines.ensures.items at c.in-Ok.ensures in
    line_alone c.args.terms.now c.args.self.now c.say_to.new.self says.0 before c.args.line.now rest c.say_to.new.lines.items text unmet c.in-Ok.wish says.1 c.in-None.is
    (rw c.deref.ensures.value at c.in_ok-put_bytes.ensures)
