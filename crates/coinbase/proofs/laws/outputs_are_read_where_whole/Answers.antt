use Rattle.coinbase.proofs.OutputLaws.{whole_law}
use Rattle.coinbase.proofs.laws.outputs_are_read_where_whole.Goals as goal

pub returns : goal.returns
returns c = whole_law
