use Rattle.block_header.proofs.Targets.{Meets-IsAtMost}
use Rattle.block_header.proofs.target.meets_class_is_meets_target.Goals as goal

pub returns : goal.returns
returns c = Meets-IsAtMost
