use Rattle.sv2_types.proofs.Laws.{defect-spelled}
use Rattle.sv2_types.proofs.grammar.spelling_has_no_defect.Goals as goal

pub returns : goal.returns
returns c = defect-spelled
