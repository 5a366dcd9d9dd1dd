use Rattle.std.proofs.Common.{◌≡◌, ◌++◌, map, take, drop}
use Rattle.v1_translate.specs.Heard.{told_by}
use Rattle.proxy_rules.specs.Miners.{relayed_to}
use Rattle.proxy_core.proofs.calling.relay.Given as goal

abbrev pub invariant-loop-miner : goal.invariant-loop-miner
invariant-loop-miner l =
    l.miner-items
    ≡ map (relayed_to l.terms (told_by l.message)) (take l.miner-index l.fn.miners.items) ++ drop l.miner-index l.fn.miners.items
