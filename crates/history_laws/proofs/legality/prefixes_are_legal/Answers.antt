use Rattle.history_laws.proofs.Legalities.{prefixes_legal}
use Rattle.history_laws.proofs.legality.prefixes_are_legal.Goals as goal

pub returns : goal.returns
returns c = prefixes_legal
