use Rattle.v1_sessions.proofs.Moves.{ask_faulted, ask_told, messages_alone}
use Rattle.v1_sessions.proofs.conversation.LineConversation.ask.Goals as goal

pub hear-requires-clause-shares : goal.hear-requires-clause-shares
hear-requires-clause-shares g c = messages_alone c.args.telling c.args.asked c.args.self.now.session.about c.requires.answered

pub returns-in-Err-clause-runs : goal.returns-in-Err-clause-runs
returns-in-Err-clause-runs g c = λ intake.
    rw c.from.ensures (ask_faulted c.args.terms.now intake c.args.self.now c.args.asked c.in-Err.cause c.act-front.ensures.call c.in-Err.is)

pub returns-in-Ok-clause-runs : goal.returns-in-Ok-clause-runs
returns-in-Ok-clause-runs g c = λ intake.
    ask_told c.args.terms.now c.args.telling intake c.args.self.now c.hear.new.self c.args.asked c.in-Ok.reply c.hear.result c.act-front.ensures.call c.in-Ok.is c.requires.answered c.hear.ensures
