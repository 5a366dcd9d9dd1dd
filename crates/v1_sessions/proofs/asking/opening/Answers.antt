use Rattle.std.proofs.Common.{refl}
use Rattle.v1_sessions.proofs.asking.opening.Goals as goal

pub returns-clause-request : goal.returns-clause-request
returns-clause-request c = record {
  ask = _;
  of_kind = refl;
  nobody = c.in_ok-of.ensures;
  most = rw c.value.ensures.value at c.target_of.ensures;
  size = refl;
  is = refl;
}
