use Rattle.std.proofs.Common.{Ok}
use Rattle.pool_server.proofs.Calls.{rolls}
use Rattle.pool_server.proofs.worker.ask.Goals as goal

pub returns-in-Ok-clause-rolls : goal.returns-in-Ok-clause-rolls
returns-in-Ok-clause-rolls g c =
    rolls c.args.pass.now c.act.new.pass c.in-Ok.front c.args.request (Ok c.in-Ok.reply) c.briefs_roll.ensures c.request_fits.ensures c.in-Ok.ensures.call
