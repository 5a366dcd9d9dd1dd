use Rattle.std.proofs.Common.{◌∙◌}
use Rattle.std.proofs.lemmas.Result.{err_from_is_err_and}
use Rattle.pool_io.proofs.Puts.{put_more}
use Rattle.pool_network.proofs.putting.put_whole.Goals as goal

pub loop-rest-preserved : goal.loop-rest-preserved
loop-rest-preserved g c = record {
  counted = c.in_ok-count.ensures.counts ∙ c.loop-rest.invariant.counted;
  source = c.put.ensures.source ∙ c.loop-rest.invariant.source;
  put = put_more (g.L.Link.seen c.args.link.now).sink.held (g.L.Link.seen c.loop-rest.link).sink.held (g.L.Link.seen c.put.new.self).sink.held c.args.bytes.now c.loop-rest.rest.now c.in_ok-count.count c.loop-rest.invariant.put c.in_ok-count.ensures.taken;
}

pub returns-in_err-count-clause-counts : goal.returns-in_err-count-clause-counts
returns-in_err-count-clause-counts g c =
    let p = err_from_is_err_and c.from_residual.result c.from_residual.ensures.1 in
    rw (p.1, p.2) (rw c.loop-rest.invariant.counted at c.in_err-count.ensures.counts)
