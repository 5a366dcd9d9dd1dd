use Rattle.sv2_types.proofs.Laws.{spellings_agree}
use Rattle.sv2_types.proofs.grammar.no_spelling_begins_another.Goals as goal

pub returns : goal.returns
returns c = spellings_agree
