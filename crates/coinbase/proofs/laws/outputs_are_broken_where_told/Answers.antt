use Rattle.coinbase.proofs.OutputLaws.{broken_law}
use Rattle.coinbase.proofs.laws.outputs_are_broken_where_told.Goals as goal

pub returns : goal.returns
returns c = broken_law
