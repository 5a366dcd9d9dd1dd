use Rattle.std.proofs.Common.{arith}
use Rattle.stream_programs.proofs.Answering.{success_fits, error_fits}
use Rattle.stream_programs.proofs.answer.answer_to.Goals as goal

pub returns-in-None-clause-fits : goal.returns-in-None-clause-fits
returns-in-None-clause-fits c = success_fits _ _ 1 _ (omega arith) (omega arith) (omega arith) (omega arith)

pub returns-in-Some-clause-fits : goal.returns-in-Some-clause-fits
returns-in-Some-clause-fits c = error_fits _ _ _ (omega arith) (omega arith) c.code.ensures.short c.code.utf8
