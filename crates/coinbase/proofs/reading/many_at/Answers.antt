use Rattle.std.proofs.lemmas.Result.{err_from_is_err_and}
use Rattle.coinbase.proofs.Loops.{begins, ends, goes_on, is_done}
use Rattle.coinbase.proofs.reading.many_at.Goals as goal

pub loop-init : goal.loop-init
loop-init g c = begins _ _ _ _ c.new-parts.ensures.items

pub returns-in_err-part : goal.returns-in_err-part
returns-in_err-part g c =
    let p = err_from_is_err_and c.from_residual.result c.from_residual.ensures.1 in
    rw (p.1, p.2) (ends g.T.Part.part_at _ _ _ _ _ _ c.loop-test.true c.in_err-part.ensures c.loop.invariant)

pub loop-preserved : goal.loop-preserved
loop-preserved g c = goes_on g.T.Part.part_at _ _ _ _ _ _ _ _ c.loop-test.true c.in_ok-part.ensures c.in_ok-push.ensures.items c.loop.invariant

pub returns : goal.returns
returns g c = is_done g.T.Part.part_at _ _ _ _ _ c.loop-test.false c.loop.invariant
