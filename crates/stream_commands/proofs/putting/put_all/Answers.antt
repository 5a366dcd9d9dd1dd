use Rattle.std.proofs.Common.{◌∙◌}
use Rattle.std.proofs.lemmas.Result.{err_from_is_err_and}
use Rattle.pool_io.proofs.Puts.{put_more}
use Rattle.stream_commands.proofs.putting.put_all.Goals as goal

pub loop-rest-preserved : goal.loop-rest-preserved
loop-rest-preserved g c = record {
  kept = c.in_ok-count.ensures.counts ∙ c.loop-rest.invariant.kept;
  put = put_more (g.T.Sink.seen c.args.sink.now).held (g.T.Sink.seen c.loop-rest.sink).held (g.T.Sink.seen c.put.new.self).held c.args.bytes.now c.loop-rest.rest.now c.in_ok-count.count c.loop-rest.invariant.put c.in_ok-count.ensures.taken;
}

pub returns-in_err-count-clause-counts : goal.returns-in_err-count-clause-counts
returns-in_err-count-clause-counts g c =
    let p = err_from_is_err_and c.from_residual.result c.from_residual.ensures.1 in
    rw (p.1, p.2) (rw c.loop-rest.invariant.kept at c.in_err-count.ensures.counts)
