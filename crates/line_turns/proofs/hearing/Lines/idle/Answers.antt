use Rattle.std.proofs.lemmas.Result.{err_from_is_err_and}
use Rattle.line_turns.proofs.Heard.{idle_failed, idle_heard}
use Rattle.line_turns.proofs.hearing.Lines.idle.Goals as goal

pub returns-in_err-idle-clause-hears : goal.returns-in_err-idle-clause-hears
returns-in_err-idle-clause-hears g c =
    let failed = err_from_is_err_and c.from_residual.result c.from_residual.ensures.1 in
    rw (failed.1, failed.2)
    (idle_failed g.T.LineTalker.goes_on g.T.LineTalker.ends g.met.T.LineTalker.hears_lines c.args.self.now c.args.talker.now c.idle.new.self (g.L.Link.seen c.args.link.now) (g.L.Link.seen c.idle.new.link)
    _ c.in_err-idle.ensures.hears)

pub returns-clause-hears : goal.returns-clause-hears
returns-clause-hears g c =
    idle_heard g.T.LineTalker.goes_on g.T.LineTalker.ends g.met.T.LineTalker.hears_lines c.args.self.now c.args.talker.now c.idle.new.self (g.L.Link.seen c.args.link.now) (g.L.Link.seen c.idle.new.link)
    c.keep_limits.result c.in_ok-idle.ensures.hears c.requires.some c.keep_limits.ensures
