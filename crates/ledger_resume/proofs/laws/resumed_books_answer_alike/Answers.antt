use Rattle.ledger_resume.proofs.Alike.{alike}
use Rattle.ledger_resume.proofs.laws.resumed_books_answer_alike.Goals as goal

pub returns : goal.returns
returns c = alike
