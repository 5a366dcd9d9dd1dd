use Rattle.desk.proofs.Calls.{asked_err, asked_ok}
use Rattle.desk.proofs.asking.ask.Goals as goal

pub returns-in-Ok : goal.returns-in-Ok
returns-in-Ok g c =
    asked_ok g.M.Machine.answers g.M.Machine.wants_memory c.args.pass.now c.act.new.pass c.args.request (c.in-Ok._front, c.in-Ok.reply) c.in-Ok.ensures.call c.in-Ok.ensures.same

pub returns-in-Err : goal.returns-in-Err
returns-in-Err g c =
    asked_err g.M.Machine.answers g.M.Machine.wants_memory c.args.pass.now c.act.new.pass c.args.request (c.in-Err._front, c.in-Err.fault) c.in-Err.ensures.call c.in-Err.ensures.same
