use Rattle.proxy_server.specs.Calling.{CallsProxy}
use Rattle.proxy_server.specs.Visits.{Notes}
use Rattle.proxy_server.proofs.Calls.{by_pass}
use Rattle.proxy_server.proofs.Noted.{acts_shown, serves_up_shown}
use Rattle.proxy_server.proofs.Reached.{names_same, reach_upstream}
use Rattle.proxy_server.proofs.workers.serve_upstream_link.Goals as goal

pub returns-clause-pass : goal.returns-clause-pass
returns-clause-pass g c =
    let reached =
    reach_upstream _ c.args.idle_turns c.args.caller.now c.serve_upstream-end.new.asking (g.L.Link.seen c.args.link.now) (g.L.Link.seen c.serve_upstream-end.new.link) c.serve_upstream-end.result.end c.serve_upstream-end.result.phase c.serve_upstream-end.ensures.served in
    names_same (λ caller. caller.pass.ghost_name) _ (λ old new call made. made.0) c.args.caller.now c.serve_upstream-end.new.asking reached.0 reached.1

pub returns-clause-served : goal.returns-clause-served
returns-clause-served g c =
    let reached =
    reach_upstream _ c.args.idle_turns c.args.caller.now c.serve_upstream-end.new.asking (g.L.Link.seen c.args.link.now) (g.L.Link.seen c.serve_upstream-end.new.link) c.serve_upstream-end.result.end c.serve_upstream-end.result.phase c.serve_upstream-end.ensures.served in
    rw c.hang_up.ensures (record {
      visit = serves_up_shown (λ caller. caller.pass.now.calls) _ Notes (λ old new call made. made.1.calls.calls) c.args.idle_turns c.args.caller.now c.serve_upstream-end.new.asking (g.L.Link.seen c.args.link.now)
          (g.L.Link.seen c.serve_upstream-end.new.link) c.serve_upstream-end.result.end c.serve_upstream-end.result.phase c.serve_upstream-end.ensures.served;
      calls = reached.0;
      by_pass = by_pass c.args.caller.now.pass.now c.serve_upstream-end.new.asking.pass.now reached.0
          (acts_shown (λ caller. caller.pass.now) _ CallsProxy (λ old new call made. made.1) c.args.caller.now c.serve_upstream-end.new.asking reached.0 reached.1);
    })
