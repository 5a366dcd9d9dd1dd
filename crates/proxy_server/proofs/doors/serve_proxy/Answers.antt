use Rattle.std.proofs.Common.{List, arith, subst}
use Rattle.proxy_rules.specs.declared.events.ProxyEvent.{ProxyEvent}
use Rattle.proxy_server.specs.Ending.{HasProxied}
use Rattle.proxy_server.specs.Parts.{seeing_of, service_of}
use Rattle.proxy_server.proofs.Whole.{opened_so}
use Rattle.proxy_server.proofs.doors.serve_proxy.Goals as goal

pub run-requires-clause-opened : goal.run-requires-clause-opened
run-requires-clause-opened g c κs within = opened_so c.in-Ok-new.ensures

pub run-requires-clause-as_many : goal.run-requires-clause-as_many
run-requires-clause-as_many g c κs within = omega (arith, c.in-Ok-new.ensures.dealt, c.len-3.ensures, c.args.doors.ok.0, c.requires.few)

pub returns-in-Ok-new : goal.returns-in-Ok-new
returns-in-Ok-new g c =
    subst (λ (b : List ProxyEvent). HasProxied (seeing_of g.D.Door.seen g.D.L.Link.seen (service_of c.args.limits)) b c.args.doors c.args.up c.run.result) c.in-Ok-new.ensures.start
    c.run.ensures
