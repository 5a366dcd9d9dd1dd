use Rattle.coinbase.proofs.Coinbases.{template_law}
use Rattle.coinbase.proofs.laws.templates_make_transactions.Goals as goal

pub returns : goal.returns
returns c = template_law
