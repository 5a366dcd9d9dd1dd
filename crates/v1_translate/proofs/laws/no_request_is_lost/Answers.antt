use Rattle.v1_translate.proofs.Balance.{none_lost}
use Rattle.v1_translate.proofs.laws.no_request_is_lost.Goals as goal

pub returns : goal.returns
returns c = none_lost
