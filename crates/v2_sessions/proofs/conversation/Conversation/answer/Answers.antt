use Rattle.v2_sessions.proofs.Chains.{runs_on}
use Rattle.v2_sessions.proofs.conversation.Conversation.answer.Goals as goal

pub returns-in-End-clause-runs : goal.returns-in-End-clause-runs
returns-in-End-clause-runs g c = λ intake.
    let ran = c.in-End.ensures.runs intake in
    rw ran.1 at ran.2

pub returns-in-Poll-clause-runs : goal.returns-in-Poll-clause-runs
returns-in-Poll-clause-runs g c = λ intake.
    let ran = c.in-Poll.ensures.runs intake in
    runs_on (rw ran.1 at ran.2) (c.news.ensures.runs intake)

pub returns-in-Book-clause-runs : goal.returns-in-Book-clause-runs
returns-in-Book-clause-runs g c = λ intake.
    let ran = c.in-Book.ensures.runs intake in
    runs_on (rw ran.1.2 at ran.2) (c.book_first.ensures.runs intake ran.1.0 ran.1.1)
