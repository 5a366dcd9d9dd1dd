use Rattle.coinbase.proofs.WholeOutputs.{output_shorter}
use Rattle.coinbase.proofs.outputs.next_output.Goals as goal

pub returns-in-Ok-clause-shorter : goal.returns-in-Ok-clause-shorter
returns-in-Ok-clause-shorter c = output_shorter _ _ _ c.in-Ok.ensures
