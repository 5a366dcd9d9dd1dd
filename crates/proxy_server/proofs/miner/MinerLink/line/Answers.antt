use Rattle.std.proofs.Common.{◌++◌, refl, sym, subst, false, None, Some}
use Rattle.std.proofs.lemmas.Result.{err_from_is_err_and}
use Rattle.proxy_server.specs.Links.{LeadsOn, Lines, link_at}
use Rattle.proxy_server.proofs.Leading.{leads_any, leads_none, line_told, overran}
use Rattle.proxy_server.proofs.miner.MinerLink.line.Goals as goal

pub returns-in-Err-clause-leads : goal.returns-in-Err-clause-leads
returns-in-Err-clause-leads g c = λ rest.
    overran g.A.ProxyAsking.does c.args.self.now.reader rest c.args.self.now.cursor _ c.args.self.now.asking.now (g.L.Link.seen c.args.link.now).sink (c.in-Err.ensures.too_long.0 refl)

pub returns-in_err-tell_line-in-Ok-Some-clause-leads : goal.returns-in_err-tell_line-in-Ok-Some-clause-leads
returns-in_err-tell_line-in-Ok-Some-clause-leads g c =
    let failed = err_from_is_err_and c.from_residual.result c.from_residual.ensures.1 in
    rw (failed.1, failed.2)
    (λ rest.
    line_told g.A.ProxyAsking.does (Some _) c.in-Ok-Some.line.now c.args.self.now.reader rest c.args.self.now.cursor _ c.args.self.now.asking.now c.tell_line.new.asking
    (g.L.Link.seen c.args.link.now).sink (g.L.Link.seen c.tell_line.new.link).sink (rw c.in-Ok-Some.field-0-is at c.in-Ok-Some.ensures.line)
    (leads_any Lines g.A.ProxyAsking.does (link_at rest c.tell_line.new.cursor false) (link_at (c.args.self.now.reader ++ rest) c.tell_line.new.cursor false)
    (c.in_err-tell_line-in-Ok-Some.ensures.leads rest)))

pub returns-in_ok-tell_line-in-Ok-Some-clause-leads : goal.returns-in_ok-tell_line-in-Ok-Some-clause-leads
returns-in_ok-tell_line-in-Ok-Some-clause-leads g c = λ rest.
    subst (λ after. LeadsOn Lines g.A.ProxyAsking.does (link_at (c.args.self.now.reader ++ rest) c.args.self.now.cursor false) c.args.self.now.asking.now (g.L.Link.seen c.args.link.now).sink None
    (link_at (after ++ rest) c.tell_line.new.cursor false) c.tell_line.new.asking (g.L.Link.seen c.tell_line.new.link).sink) (sym c.drop_line.ensures)
    (line_told g.A.ProxyAsking.does None c.in-Ok-Some.line.now c.args.self.now.reader rest c.args.self.now.cursor (link_at rest c.tell_line.new.cursor false) c.args.self.now.asking.now c.tell_line.new.asking
    (g.L.Link.seen c.args.link.now).sink (g.L.Link.seen c.tell_line.new.link).sink (rw c.in-Ok-Some.field-0-is at c.in-Ok-Some.ensures.line) (c.in_ok-tell_line-in-Ok-Some.ensures.leads rest))

pub returns-in-Ok-None-clause-leads : goal.returns-in-Ok-None-clause-leads
returns-in-Ok-None-clause-leads g c = λ rest.
    leads_none Lines g.A.ProxyAsking.does (link_at (c.args.self.now.reader ++ rest) c.args.self.now.cursor false) c.args.self.now.asking.now (g.L.Link.seen c.args.link.now).sink
