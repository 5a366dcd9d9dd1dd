use Rattle.std.proofs.Common.{◌≡◌, [], ◌-◌, ◌++◌, length, take, drop, refl, sym, subst, ap, false, None, Some, ◌∙◌, append-nil}
use Rattle.std.proofs.lemmas.Bool.{eqb-true}
use Rattle.std.proofs.lemmas.List.{nil_from_length}
use Rattle.std.proofs.lemmas.Result.{err_from_is_err_and}
use Rattle.v2_sessions.proofs.Turns.{fed_whole}
use Rattle.proxy_server.specs.Links.{LeadsOn, Lines, link_at}
use Rattle.proxy_server.proofs.Leading.{leads_any, leads_from, leads_none, leads_on}
use Rattle.proxy_server.proofs.miner.MinerLink.lines.Goals as goal

pub loop-rest-init : goal.loop-rest-init
loop-rest-init g c = record {
  ready = c.requires.ready;
  same = refl;
  source = refl;
  text = c.requires.text;
  so_far = leads_none Lines g.A.ProxyAsking.does (link_at (c.args.self.now.reader ++ c.args.piece.now) c.args.self.now.cursor false) c.args.self.now.asking.now (g.L.Link.seen c.args.link.now).sink;
}

pub loop-rest-preserved : goal.loop-rest-preserved
loop-rest-preserved g c =
    let rest = c.loop-rest.rest.now in
    let left = take (length rest - c.feed-count.result) (drop c.feed-count.result rest) in
    let fed = fed_whole c.loop-rest.self.reader c.feed-count.new.self rest c.feed-count.result c.feed-count.ensures.taken.bytes in
    record {
      ready = c.line.ensures.ready;
      same = c.line.ensures.same ∙ c.loop-rest.invariant.same;
      source = c.line.ensures.source ∙ c.loop-rest.invariant.source;
      text = c.in_ok-line.ensures.text;
      so_far = leads_on Lines g.A.ProxyAsking.does None _ (link_at (c.loop-rest.self.reader ++ rest) c.loop-rest.self.cursor false) _ _ c.loop-rest.self.asking.now _ _
          (g.L.Link.seen c.loop-rest.link).sink _ c.loop-rest.invariant.so_far (leads_from Lines g.A.ProxyAsking.does c.loop-rest.self.cursor fed (c.in_ok-line.ensures.leads left));
    }

pub returns-in_err-line-clause-leads : goal.returns-in_err-line-clause-leads
returns-in_err-line-clause-leads g c =
    let rest = c.loop-rest.rest.now in
    let left = take (length rest - c.feed-count.result) (drop c.feed-count.result rest) in
    let fed = fed_whole c.loop-rest.self.reader c.feed-count.new.self rest c.feed-count.result c.feed-count.ensures.taken.bytes in
    let failed = err_from_is_err_and c.from_residual.result c.from_residual.ensures.1 in
    rw (failed.1, failed.2)
    (leads_on Lines g.A.ProxyAsking.does (Some _) _ (link_at (c.loop-rest.self.reader ++ rest) c.loop-rest.self.cursor false) _ _ c.loop-rest.self.asking.now _ _
    (g.L.Link.seen c.loop-rest.link).sink _ c.loop-rest.invariant.so_far
    (leads_from Lines g.A.ProxyAsking.does c.loop-rest.self.cursor fed
    (leads_any Lines g.A.ProxyAsking.does (link_at (c.line.new.self.reader ++ left) c.line.new.self.cursor false) _ (c.in_err-line.ensures.leads left))))

pub returns-clause-leads : goal.returns-clause-leads
returns-clause-leads g c =
    let nothing : c.loop-rest.rest.now ≡ [] = nil_from_length c.loop-rest.rest.now (eqb-true (length c.loop-rest.rest.now) 0 (sym c.is_empty.ensures ∙ c.loop-rest-test.false)) in
    subst (λ u. LeadsOn Lines g.A.ProxyAsking.does (link_at (c.args.self.now.reader ++ c.args.piece.now) c.args.self.now.cursor false) c.args.self.now.asking.now (g.L.Link.seen c.args.link.now).sink None
    (link_at u c.loop-rest.self.cursor false) c.loop-rest.self.asking.now (g.L.Link.seen c.loop-rest.link).sink)
    (ap (λ l. c.loop-rest.self.reader ++ l) nothing ∙ append-nil c.loop-rest.self.reader) c.loop-rest.invariant.so_far
