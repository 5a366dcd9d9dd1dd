use Rattle.history_laws.proofs.CreditsFit.{credits-fit}
use Rattle.history_laws.proofs.credited.credits_fit.Goals as goal

pub returns : goal.returns
returns c = credits-fit
