use Rattle.coinbase.proofs.Transactions.{one_tx}
use Rattle.coinbase.proofs.laws.bytes_are_one_transaction.Goals as goal

pub returns : goal.returns
returns c = one_tx
