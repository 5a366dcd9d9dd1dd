use Rattle.history_laws.proofs.Crediting.{credits-stay}
use Rattle.history_laws.proofs.staying.credits_stay.Goals as goal

pub returns : goal.returns
returns c = credits-stay
