use Rattle.session_steps.proofs.Deciding.{all_decide}
use Rattle.session_steps.proofs.laws.bytes_decide.Goals as goal

pub returns : goal.returns
returns c = all_decide
