use Rattle.proxy_server.proofs.Uplinks.{where_on}
use Rattle.proxy_server.proofs.miner.MinerLinkTurnHearer.piece.Goals as goal

pub returns-clause-heard : goal.returns-clause-heard
returns-clause-heard g c =
    (c.lines.ensures.same, (c.lines.ensures.leads, where_on c.lines.result _ c.lines.ensures.text))
