use Rattle.sv2_types.proofs.Laws.{written_spells}
use Rattle.sv2_types.proofs.grammar.written_is_spelling.Goals as goal

pub returns : goal.returns
returns c = written_spells
