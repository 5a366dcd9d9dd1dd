use Rattle.coinbase.proofs.Transactions.{trailing_law}
use Rattle.coinbase.proofs.laws.trailing_bytes_are_counted.Goals as goal

pub returns : goal.returns
returns c = trailing_law
