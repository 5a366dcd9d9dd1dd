use Rattle.v1_translate.proofs.States.{masks_cut}
use Rattle.v1_translate.proofs.laws.masks_are_cut.Goals as goal

pub returns : goal.returns
returns c = masks_cut
