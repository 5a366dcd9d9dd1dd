use Rattle.history_laws.proofs.Living.{classes-stay}
use Rattle.history_laws.proofs.staying.classes_stay.Goals as goal

pub returns : goal.returns
returns c = classes-stay
