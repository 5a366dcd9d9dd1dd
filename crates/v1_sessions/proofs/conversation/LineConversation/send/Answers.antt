use Rattle.std.proofs.Common.{sym, ◌∙◌}
use Rattle.v1_sessions.specs.Asking.{wish_request}
use Rattle.v1_sessions.specs.Chains.{runs_on}
use Rattle.v1_sessions.proofs.Moves.{asks_at_once, entering_ends, entering_leads, enters_first}
use Rattle.v1_sessions.proofs.conversation.LineConversation.send.Goals as goal

pub returns-then-is_set_up-clause-runs : goal.returns-then-is_set_up-clause-runs
returns-then-is_set_up-clause-runs g c = λ intake.
    rw (asks_at_once intake c.args.self.now (wish_request c.args.wish) (sym c.is_set_up.ensures ∙ c.if-is_set_up.true)) (c.ask_wish.ensures.runs intake)

pub returns-in-Ok-clause-runs : goal.returns-in-Ok-clause-runs
returns-in-Ok-clause-runs g c = λ intake.
    let leads = c.ask_wish-in-Ok.ensures.runs intake in
    rw (enters_first intake c.args.self.now (wish_request c.args.wish) (sym c.is_set_up.ensures ∙ c.if-is_set_up.false))
    (record {
      v1 = leads.v1;
      v1_is = leads.v1_is;
      runs = runs_on (entering_leads c.args.terms.now intake c.args.self.now (wish_request c.args.wish) c.enter_first.new.self c.in-Ok.ensures.enters) leads.runs;
    })

pub returns-in-Err-clause-runs : goal.returns-in-Err-clause-runs
returns-in-Err-clause-runs g c = λ intake.
    rw (enters_first intake c.args.self.now (wish_request c.args.wish) (sym c.is_set_up.ensures ∙ c.if-is_set_up.false))
    (entering_ends c.args.terms.now intake c.args.self.now (wish_request c.args.wish) c.enter_first.new.self _ c.in-Err.end c.in-Err.ensures.enters)
