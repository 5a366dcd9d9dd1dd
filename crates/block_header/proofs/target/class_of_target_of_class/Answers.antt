use Rattle.block_header.proofs.Targets.{class_of_number-target}
use Rattle.block_header.proofs.target.class_of_target_of_class.Goals as goal

pub returns : goal.returns
returns c = class_of_number-target
