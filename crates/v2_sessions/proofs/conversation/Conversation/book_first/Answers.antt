use Rattle.v2_sessions.proofs.Chains.{runs_on}
use Rattle.v2_sessions.proofs.conversation.Conversation.book_first.Goals as goal

pub returns-clause-runs : goal.returns-clause-runs
returns-clause-runs g c = λ intake brief books. runs_on (c.in_ok-book.ensures.runs intake brief books) (c.news.ensures.runs intake)
