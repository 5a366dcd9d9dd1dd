use Rattle.std.proofs.Common.{◌≡◌, [], ◌-◌, ◌++◌, length, take, drop, refl, sym, subst, ap, false, None, Some, ◌∙◌, append-nil}
use Rattle.std.proofs.lemmas.Bool.{eqb-true}
use Rattle.std.proofs.lemmas.List.{nil_from_length}
use Rattle.std.proofs.lemmas.Result.{err_from_is_err_and}
use Rattle.v2_sessions.proofs.Turns.{fed_whole}
use Rattle.proxy_server.specs.Links.{link_at}
use Rattle.proxy_server.specs.Upstreams.{LeadsUp, up_at}
use Rattle.proxy_server.proofs.Uplinks.{up_any, up_from, up_none, up_on}
use Rattle.proxy_server.proofs.upstream.UpstreamLink.frames.Goals as goal

pub loop-rest-init : goal.loop-rest-init
loop-rest-init g c = record {
  ready = c.requires.ready;
  same = refl;
  source = refl;
  limit = c.requires.limit;
  cut = c.requires.cut;
  fit = c.requires.fit;
  so_far = up_none g.A.ProxyAsking.does (up_at (c.args.self.now.splitter.held ++ c.args.piece.now) c.args.self.now.cursor false c.args.self.now.phase) c.args.self.now.asking.now
      (g.L.Link.seen c.args.link.now).sink c.requires.fit;
}

pub loop-rest-preserved : goal.loop-rest-preserved
loop-rest-preserved g c =
    let rest = c.loop-rest.rest.now in
    let left = take (length rest - c.feed-count.result) (drop c.feed-count.result rest) in
    let fed = fed_whole c.loop-rest.self.splitter.held c.feed-count.new.self.held rest c.feed-count.result c.feed-count.ensures.bytes in
    record {
      ready = c.frame.ensures.ready;
      same = c.frame.ensures.same ∙ c.loop-rest.invariant.same;
      source = c.frame.ensures.source ∙ c.loop-rest.invariant.source;
      limit = c.frame.ensures.limit;
      cut = c.in_ok-frame.ensures.cut;
      fit = c.in_ok-frame.ensures.fit;
      so_far = up_on g.A.ProxyAsking.does None _ (up_at (c.loop-rest.self.splitter.held ++ rest) c.loop-rest.self.cursor false c.loop-rest.self.phase) _ _ c.loop-rest.self.asking.now _ _
          (g.L.Link.seen c.loop-rest.link).sink _ c.loop-rest.invariant.so_far
          (up_from g.A.ProxyAsking.does c.loop-rest.self.cursor c.loop-rest.self.phase fed (c.in_ok-frame.ensures.leads left));
    }

pub returns-in_err-frame-clause-leads : goal.returns-in_err-frame-clause-leads
returns-in_err-frame-clause-leads g c =
    let rest = c.loop-rest.rest.now in
    let left = take (length rest - c.feed-count.result) (drop c.feed-count.result rest) in
    let fed = fed_whole c.loop-rest.self.splitter.held c.feed-count.new.self.held rest c.feed-count.result c.feed-count.ensures.bytes in
    let failed = err_from_is_err_and c.from_residual.result c.from_residual.ensures.1 in
    rw (failed.1, failed.2)
    (up_on g.A.ProxyAsking.does (Some _) _ (up_at (c.loop-rest.self.splitter.held ++ rest) c.loop-rest.self.cursor false c.loop-rest.self.phase) _ _ c.loop-rest.self.asking.now _ _
    (g.L.Link.seen c.loop-rest.link).sink _ c.loop-rest.invariant.so_far
    (up_from g.A.ProxyAsking.does c.loop-rest.self.cursor c.loop-rest.self.phase fed
    (up_any g.A.ProxyAsking.does (link_at (c.frame.new.self.splitter.held ++ left) c.frame.new.self.cursor false) _ c.frame.new.self.phase (c.in_err-frame.ensures.leads left))))

pub returns-clause-leads : goal.returns-clause-leads
returns-clause-leads g c =
    let nothing : c.loop-rest.rest.now ≡ [] = nil_from_length c.loop-rest.rest.now (eqb-true (length c.loop-rest.rest.now) 0 (sym c.is_empty.ensures ∙ c.loop-rest-test.false)) in
    subst (λ u. LeadsUp g.A.ProxyAsking.does (up_at (c.args.self.now.splitter.held ++ c.args.piece.now) c.args.self.now.cursor false c.args.self.now.phase) c.args.self.now.asking.now
    (g.L.Link.seen c.args.link.now).sink None (up_at u c.loop-rest.self.cursor false c.loop-rest.self.phase) c.loop-rest.self.asking.now (g.L.Link.seen c.loop-rest.link).sink)
    (ap (λ l. c.loop-rest.self.splitter.held ++ l) nothing ∙ append-nil c.loop-rest.self.splitter.held) c.loop-rest.invariant.so_far
