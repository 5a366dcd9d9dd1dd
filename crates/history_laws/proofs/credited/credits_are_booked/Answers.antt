use Rattle.history_laws.proofs.Crediting.{credits-booked}
use Rattle.history_laws.proofs.credited.credits_are_booked.Goals as goal

pub returns : goal.returns
returns c = credits-booked
