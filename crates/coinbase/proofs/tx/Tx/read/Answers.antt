use Rattle.std.proofs.Common.{subst, arith}
use Rattle.coinbase.specs.Reading.{ReadsTx}
use Rattle.coinbase.proofs.Transactions.{tx_again, is_found}
use Rattle.coinbase.proofs.tx.Tx.read.Goals as goal

pub returns-clause-found : goal.returns-clause-found
returns-clause-found c = is_found c.args.bytes.now c.tx_of.result (λ i. omega (arith, c.type_inv.bytes i)) c.tx_of.ensures

pub returns-clause-only : goal.returns-clause-only
returns-clause-only c = λ tx is. subst (λ read. ReadsTx c.tx_of.result read) (tx_again c.args.bytes.now tx is) c.tx_of.ensures
