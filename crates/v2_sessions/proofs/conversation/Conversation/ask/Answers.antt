use Rattle.std.proofs.Common.{refl}
use Rattle.session_steps.specs.States.{end_stage}
use Rattle.v2_sessions.proofs.Moves.{ask_answered, ask_faulted}
use Rattle.v2_sessions.proofs.conversation.Conversation.ask.Goals as goal

pub returns-in-Err-clause-runs : goal.returns-in-Err-clause-runs
returns-in-Err-clause-runs g c = λ intake. (
  end_stage c.args.self.now.entered c.from.result,
  refl,
  rw c.from.ensures (ask_faulted intake c.args.self.now c.args.asked c.in-Err.cause c.act-front.ensures.call c.in-Err.is),
)

pub returns-in-Ok-clause-runs : goal.returns-in-Ok-clause-runs
returns-in-Ok-clause-runs g c = λ intake.
    ask_answered intake c.args.self.now c.args.asked c.in-Ok.reply c.hear.result c.hear.new.self c.act-front.ensures.call c.in-Ok.is c.hear.ensures
