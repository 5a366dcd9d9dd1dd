use Rattle.history_laws.proofs.NineProved.{nine-stand}
use Rattle.history_laws.proofs.conditions.conditions_stand_by_themselves.Goals as goal

pub returns : goal.returns
returns c = nine-stand
