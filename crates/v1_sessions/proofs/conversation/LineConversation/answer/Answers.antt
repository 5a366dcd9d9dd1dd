use Rattle.v1_sessions.proofs.Moves.{asks_booking, asks_end, asks_poll}
use Rattle.v1_sessions.proofs.conversation.LineConversation.answer.Goals as goal

pub returns-in-End-clause-runs : goal.returns-in-End-clause-runs
returns-in-End-clause-runs g c = λ intake. asks_end c.args.terms.now intake _ c.in-End.end (c.in-End.ensures.runs intake)

pub returns-in-Poll-clause-runs : goal.returns-in-Poll-clause-runs
returns-in-Poll-clause-runs g c = λ intake. asks_poll c.args.terms.now intake (c.in-Poll.ensures.runs intake) (c.news.ensures.runs intake)

pub returns-in-Book-clause-runs : goal.returns-in-Book-clause-runs
returns-in-Book-clause-runs g c = λ intake.
    let asks = c.in-Book.ensures.runs intake in
    asks_booking c.args.terms.now intake asks (c.book.ensures.runs intake asks.leads.0 asks.leads.1)
