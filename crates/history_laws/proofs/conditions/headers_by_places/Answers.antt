use Rattle.history_laws.proofs.CreditedHeaders.{headers-placed}
use Rattle.history_laws.proofs.conditions.headers_by_places.Goals as goal

pub returns : goal.returns
returns c = headers-placed
