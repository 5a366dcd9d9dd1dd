use Rattle.sv2_messages.proofs.Answering.{read_back}
use Rattle.sv2_messages.proofs.laws.written_is_read_back.Goals as goal

pub returns : goal.returns
returns c = read_back
