use Rattle.std.proofs.Common.{◌++◌, List, ℕ, None, false, sym, ap, subst}
use Rattle.std.proofs.lemmas.Result.{err_from_is_err_and}
use Rattle.sv2_frames.specs.Holding.{Holding}
use Rattle.proxy_server.specs.Links.{link_at}
use Rattle.proxy_server.specs.Upstreams.{LeadsUp, up_at}
use Rattle.proxy_server.proofs.Uplinks.{over_begins, up_any, up_from, up_none, up_overran}
use Rattle.proxy_server.proofs.upstream.UpstreamLink.frame.Goals as goal

pub returns-in_err-tell_frame-in-Ok-Some-clause-leads : goal.returns-in_err-tell_frame-in-Ok-Some-clause-leads
returns-in_err-tell_frame-in-Ok-Some-clause-leads g c =
    let failed = err_from_is_err_and c.from_residual.result c.from_residual.ensures.1 in
    let held = (rw c.in-Ok-Some.field-0-is at c.in-Ok-Some.ensures.frame) in
    rw (failed.1, failed.2)
    (λ rest.
    up_from g.A.ProxyAsking.does c.args.self.now.cursor c.args.self.now.phase (ap (λ (l : List ℕ). l ++ rest) (sym held.whole))
    (up_any g.A.ProxyAsking.does (link_at rest c.tell_frame.new.cursor false) (link_at (c.args.self.now.splitter.held ++ rest) c.tell_frame.new.cursor false) c.tell_frame.new.phase
    (c.in_err-tell_frame-in-Ok-Some.ensures.leads rest)))

pub returns-in-Err-clause-leads : goal.returns-in-Err-clause-leads
returns-in-Err-clause-leads g c = λ rest.
    up_overran g.A.ProxyAsking.does c.in-Err.field-0.0 (c.args.self.now.splitter.held ++ rest) c.args.self.now.cursor (link_at (c.args.self.now.splitter.held ++ rest) c.args.self.now.cursor false)
    c.args.self.now.phase c.args.self.now.asking.now (g.L.Link.seen c.args.link.now).sink (over_begins c.in-Err.field-0.0 c.args.self.now.splitter rest c.requires.limit c.in-Err.ensures.too_long) c.requires.fit

pub returns-in-Ok-None-clause-leads : goal.returns-in-Ok-None-clause-leads
returns-in-Ok-None-clause-leads g c = λ rest.
    up_none g.A.ProxyAsking.does (up_at (c.args.self.now.splitter.held ++ rest) c.args.self.now.cursor false c.args.self.now.phase) c.args.self.now.asking.now (g.L.Link.seen c.args.link.now).sink c.requires.fit

pub returns-in_ok-tell_frame-in-Ok-Some-clause-leads : goal.returns-in_ok-tell_frame-in-Ok-Some-clause-leads
returns-in_ok-tell_frame-in-Ok-Some-clause-leads g c = λ rest.
    let held = (rw c.in-Ok-Some.field-0-is at c.in-Ok-Some.ensures.frame) in
    subst
    (λ (after : List ℕ). LeadsUp g.A.ProxyAsking.does (up_at (c.args.self.now.splitter.held ++ rest) c.args.self.now.cursor false c.args.self.now.phase) c.args.self.now.asking.now
    (g.L.Link.seen c.args.link.now).sink None (up_at (after ++ rest) c.tell_frame.new.cursor false c.tell_frame.new.phase) c.tell_frame.new.asking (g.L.Link.seen c.tell_frame.new.link).sink)
    (sym (ap (λ (h : Holding). h.held) c.drop_frame.ensures.empty))
    (up_from g.A.ProxyAsking.does c.args.self.now.cursor c.args.self.now.phase (ap (λ (l : List ℕ). l ++ rest) (sym held.whole)) (c.in_ok-tell_frame-in-Ok-Some.ensures.leads rest))
