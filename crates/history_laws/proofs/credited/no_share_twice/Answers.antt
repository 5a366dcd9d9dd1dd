use Rattle.history_laws.proofs.Crediting.{no_share-twice}
use Rattle.history_laws.proofs.credited.no_share_twice.Goals as goal

pub returns : goal.returns
returns c = no_share-twice
