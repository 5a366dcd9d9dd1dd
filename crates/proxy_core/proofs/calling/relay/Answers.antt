use Rattle.std.proofs.Common.{arith}
use Rattle.v1_translate.specs.Heard.{told_by}
use Rattle.proxy_rules.specs.Miners.{relayed_to}
use Rattle.proxy_core.proofs.Callers.{one_more}
use Rattle.proxy_core.proofs.calling.relay.Goals as goal

pub loop-miner-preserved : goal.loop-miner-preserved
loop-miner-preserved c =
    one_more (relayed_to c.args.terms.now (told_by c.args.message.now)) c.args.miners.now.items c.loop-miner.miner-items c.loop-miner.miner-index
    c.miner-item.result c.relay.new.self (omega arith) c.loop-miner.invariant c.in_ok-relay.ensures
