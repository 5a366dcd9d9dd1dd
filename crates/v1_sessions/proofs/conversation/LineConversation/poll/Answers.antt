use Rattle.std.proofs.Common.{None, Some, refl, sym, ap, ◌∙◌}
use Rattle.std.proofs.lemmas.Result.{err_from_is_err_and}
use Rattle.v1_sessions.specs.declared.conversation.LineConversation.{LineConversation}
use Rattle.v1_sessions.proofs.Moves.{poll_faulted, poll_told}
use Rattle.v1_sessions.proofs.conversation.LineConversation.poll.Goals as goal

pub returns-in_err-reply-clause-runs : goal.returns-in_err-reply-clause-runs
returns-in_err-reply-clause-runs g c = λ intake.
    let p = err_from_is_err_and c.from_residual.result c.from_residual.ensures.1 in
    rw (p.1, p.2) (poll_faulted c.args.terms.now intake c.args.self.now _ c.in_err-reply.field-0.0 c.act-outcome.ensures.call c.in_err-reply.was)

pub returns-in_err-tell-clause-runs : goal.returns-in_err-tell-clause-runs
returns-in_err-tell-clause-runs g c = λ intake.
    let p = err_from_is_err_and c.from_residual-in_err-tell.result c.from_residual-in_err-tell.ensures.1 in
    let told = c.in_err-tell.ensures in
    rw (p.1, p.2)
    (poll_told c.args.terms.now intake c.args.self.now c.tell.new.self c.in_ok-reply.reply (Some c.in_err-tell.field-0.0) _ refl c.act-outcome.ensures.call c.in_ok-reply.was told.puts
    (ap (λ (c : LineConversation). c.session) told.same) (ap (λ (c : LineConversation). c.entered) told.same)
    (ap (λ (c : LineConversation). c.cursor) told.same ∙ c.told_to-self.ensures) tt)

pub returns-clause-runs : goal.returns-clause-runs
returns-clause-runs g c = λ intake.
    let told = c.in_ok-tell.ensures in
    poll_told c.args.terms.now intake c.args.self.now c.tell.new.self c.in_ok-reply.reply None _ refl c.act-outcome.ensures.call c.in_ok-reply.was told.puts
    (ap (λ (c : LineConversation). c.session) told.same) (ap (λ (c : LineConversation). c.entered) told.same)
    (ap (λ (c : LineConversation). c.cursor) told.same ∙ c.told_to-self.ensures) (sym told.told)
