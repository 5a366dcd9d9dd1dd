use Rattle.history_laws.proofs.Placing.{present-some}
use Rattle.history_laws.proofs.places.present_is_some_workers.Goals as goal

pub returns : goal.returns
returns c = present-some
