use Rattle.history_laws.proofs.BriefsRoll.{briefs-roll}
use Rattle.history_laws.proofs.answers.briefs_roll.Goals as goal

pub returns : goal.returns
returns c = briefs-roll
