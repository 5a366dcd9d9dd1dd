use Rattle.proxy_rules.specs.Steps.{named}
use Rattle.proxy_core.proofs.Callers.{none_at, ok_at}
use Rattle.proxy_core.proofs.calling.take_name.Goals as goal

pub returns-in-Some : goal.returns-in-Some
returns-in-Some c =
    ok_at c.take_name.result c.args.caller (named c.args.account.now) c.args.miners.now.items c.as_slice.result.now c.in-Some.place c.index_mut.result.now c.take_name.new.self
    c.as_slice.ensures.value c.in-Some.ensures c.index_mut.ensures.value c.take_name.ensures

pub returns-in-None : goal.returns-in-None
returns-in-None c = none_at c.args.caller (named c.args.account.now) c.args.miners.now.items c.as_slice.result.now c.as_slice.ensures.value c.in-None.ensures
