use Rattle.coinbase.proofs.Coinbases.{custom_law}
use Rattle.coinbase.proofs.laws.custom_jobs_make_transactions.Goals as goal

pub returns : goal.returns
returns c = custom_law
