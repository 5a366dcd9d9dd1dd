use Rattle.std.proofs.Common.{arith, ap, length}
use Rattle.std.proofs.lemmas.List.{length-take}
use Rattle.v2_sessions.proofs.Fitting.{token_fits}
use Rattle.v2_sessions.proofs.answering.put_grant.Goals as goal

pub frame-requires : goal.frame-requires
frame-requires c =
    token_fits _ _ _ (omega arith) (ap length c.to_le_bytes-token.ensures)
    (omega (arith, c.empty_output-length.ensures.few, length-take c.empty_output-length.result.1 c.empty_output-length.result.0))

pub returns-clause-ok : goal.returns-clause-ok
returns-clause-ok c = rw (c.to_le_bytes-token.ensures, c.empty_output-length.ensures.bytes) at c.frame.ensures.ok
