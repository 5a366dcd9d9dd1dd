use Rattle.proxy_core.proofs.Callers.{none_at, ok_at}
use Rattle.proxy_core.proofs.subscribing.subscribe_at.Goals as goal

pub returns-in-Some : goal.returns-in-Some
returns-in-Some c =
    ok_at c.subscribe.result c.args.caller _ c.args.miners.now.items c.as_slice.result.now c.in-Some.place c.index_mut.result.now c.subscribe.new.miner
    c.as_slice.ensures.value c.in-Some.ensures c.index_mut.ensures.value c.subscribe.ensures

pub returns-in-None : goal.returns-in-None
returns-in-None c = none_at c.args.caller _ c.args.miners.now.items c.as_slice.result.now c.as_slice.ensures.value c.in-None.ensures
