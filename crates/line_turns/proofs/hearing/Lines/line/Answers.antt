use Rattle.std.proofs.Common.{refl}
use Rattle.std.proofs.lemmas.Result.{err_from_is_err_and}
use Rattle.line_turns.proofs.Heard.{line_heard, long_heard}
use Rattle.line_turns.proofs.hearing.Lines.line.Goals as goal

pub returns-in_err-line-in-Ok-Some-clause-hears : goal.returns-in_err-line-in-Ok-Some-clause-hears
returns-in_err-line-in-Ok-Some-clause-hears g c =
    let failed = err_from_is_err_and c.from_residual.result c.from_residual.ensures.1 in
    rw (failed.1, failed.2)
    (line_heard g.T.LineTalker.goes_on g.T.LineTalker.ends g.met.T.LineTalker.hears_lines c.args.self.now.reader c.in-Ok-Some.line.now c.args.self.now.reader (rw c.in-Ok-Some.field-0-is at c.in-Ok-Some.ensures.line)
    c.args.talker.now c.line.new.self (g.L.Link.seen c.args.link.now) (g.L.Link.seen c.line.new.link) _ c.in_err-line-in-Ok-Some.ensures.hears tt)

pub returns-in-Err-clause-hears : goal.returns-in-Err-clause-hears
returns-in-Err-clause-hears g c =
    long_heard g.T.LineTalker.goes_on g.T.LineTalker.ends g.met.T.LineTalker.hears_lines c.args.self.now.reader (c.in-Err.ensures.too_long.0 refl) c.args.talker.now (g.L.Link.seen c.args.link.now)

pub returns-in_ok-line-in-Ok-Some-clause-hears : goal.returns-in_ok-line-in-Ok-Some-clause-hears
returns-in_ok-line-in-Ok-Some-clause-hears g c =
    line_heard g.T.LineTalker.goes_on g.T.LineTalker.ends g.met.T.LineTalker.hears_lines c.args.self.now.reader c.in-Ok-Some.line.now c.drop_line.new.self (rw c.in-Ok-Some.field-0-is at c.in-Ok-Some.ensures.line)
    c.args.talker.now c.line.new.self (g.L.Link.seen c.args.link.now) (g.L.Link.seen c.line.new.link) _ c.in_ok-line-in-Ok-Some.ensures.hears c.drop_line.ensures
