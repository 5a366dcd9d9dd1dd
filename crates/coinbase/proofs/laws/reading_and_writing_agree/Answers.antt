use Rattle.coinbase.proofs.Transactions.{read_then_written, written_then_read}
use Rattle.coinbase.proofs.laws.reading_and_writing_agree.Goals as goal

pub returns-clause-written : goal.returns-clause-written
returns-clause-written c = read_then_written

pub returns-clause-read : goal.returns-clause-read
returns-clause-read c = written_then_read
