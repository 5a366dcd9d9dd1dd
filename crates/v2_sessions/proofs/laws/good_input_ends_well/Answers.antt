use Rattle.v2_sessions.proofs.Whole.{good_ends_well}
use Rattle.v2_sessions.proofs.laws.good_input_ends_well.Goals as goal

pub returns : goal.returns
returns c = good_ends_well
