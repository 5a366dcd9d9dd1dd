use Rattle.std.proofs.lemmas.Result.{err_from_is_err_and}
use Rattle.v2_sessions.specs.Standing.{intake_of}
use Rattle.v2_sessions.proofs.Turns.{idle_goes_on, listens_on, runs_declares}
use Rattle.v2_sessions.proofs.listening.Listener.idle.Goals as goal

pub returns-in_err-news-clause-runs : goal.returns-in_err-news-clause-runs
returns-in_err-news-clause-runs g c =
    let failed = err_from_is_err_and c.from_residual.result c.from_residual.ensures.1 in
    rw (failed.1, failed.2) (c.in_err-news.ensures.runs (intake_of c.args.self.now))

pub returns-clause-runs : goal.returns-clause-runs
returns-clause-runs g c =
    let goes = idle_goes_on c.news.new.self.entered c.args.self.now.waiting c.keep_limits.result c.requires.some c.keep_limits.ensures in
    rw goes at (c.in_ok-news.ensures.runs (intake_of c.args.self.now))

pub returns-clause-listening : goal.returns-clause-listening
returns-clause-listening g c =
    listens_on c.news.new.self.session.declares c.args.conversation.now.session.declares c.args.self.now c.keep_limits.result
    (runs_declares (c.in_ok-news.ensures.runs (intake_of c.args.self.now))) c.requires.met c.requires.most c.keep_limits.ensures
