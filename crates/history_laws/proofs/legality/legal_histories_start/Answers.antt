use Rattle.history_laws.proofs.Legalities.{legal_starts}
use Rattle.history_laws.proofs.legality.legal_histories_start.Goals as goal

pub returns : goal.returns
returns c = legal_starts
