use Rattle.proxy_rules.specs.Miners.{left}
use Rattle.proxy_core.proofs.Callers.{none_at, set_at}
use Rattle.proxy_core.proofs.calling.leave.Goals as goal

pub returns-in-Some : goal.returns-in-Some
returns-in-Some c =
    set_at c.args.caller left c.args.miners.now.items c.as_slice.result.now c.in-Some.place c.index_mut.result.now c.leave.new.self
    c.as_slice.ensures.value c.in-Some.ensures c.index_mut.ensures.value c.leave.ensures

pub returns-in-None : goal.returns-in-None
returns-in-None c = none_at c.args.caller left c.args.miners.now.items c.as_slice.result.now c.as_slice.ensures.value c.in-None.ensures
