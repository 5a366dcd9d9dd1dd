use Rattle.std.proofs.Common.{refl}
use Rattle.pool_sessions.proofs.Calls.{called, rolls}
use Rattle.pool_sessions.proofs.sole.SoleBookActing.act.Goals as goal

pub returns-clause-call : goal.returns-clause-call
returns-clause-call g c =
    let made =
    called c.args.self.now.worker c.args.self.now.book c.act.new.self c.args.request c.len-front.result c.len-front.ensures.value
    c.act.ensures.kept c.act.ensures.begun c.act.result c.act.ensures.answer c.act.ensures.refused c.act.ensures.counts in
    record { call = made.0; worker_is = made.1; front_is = made.2; asked_is = made.3; outcome_is = made.4; done = made.5; same = refl }

pub returns-clause-rolls : goal.returns-clause-rolls
returns-clause-rolls g c =
    rolls c.args.self.now.book.events c.act.new.self.events c.args.self.now.worker c.args.request c.act.result c.briefs_roll.ensures c.request_fits.ensures
    c.act.ensures.answer
