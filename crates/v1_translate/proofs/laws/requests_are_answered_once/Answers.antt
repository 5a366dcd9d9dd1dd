use Rattle.v1_translate.proofs.Balance.{answered_once}
use Rattle.v1_translate.proofs.laws.requests_are_answered_once.Goals as goal

pub returns : goal.returns
returns c = answered_once
