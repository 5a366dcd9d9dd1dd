use Rattle.std.proofs.lemmas.Result.{err_from_is_err_and}
use Rattle.coinbase.proofs.WholeOutputs.{goes_on, ends, is_done, some_left}
use Rattle.coinbase.proofs.outputs.outputs_of.Goals as goal

pub returns-in_err-output : goal.returns-in_err-output
returns-in_err-output c =
    let p = err_from_is_err_and c.from_residual.result c.from_residual.ensures.1 in
    rw (p.1, p.2) (ends _ _ _ _ (some_left _ _ c.is_at_end.ensures c.loop-cursor-test.true) c.in_err-output.ensures.read c.loop-cursor.invariant)

pub loop-cursor-preserved : goal.loop-cursor-preserved
loop-cursor-preserved c =
    goes_on _ _ _ _ _ _ (some_left _ _ c.is_at_end.ensures c.loop-cursor-test.true) c.in_ok-output.ensures.read c.in_ok-push.ensures.items c.loop-cursor.invariant

pub returns : goal.returns
returns c = is_done _ _ _ (c.is_at_end.ensures.0 c.loop-cursor-test.false) c.loop-cursor.invariant
