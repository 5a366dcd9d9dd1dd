use Rattle.std.proofs.Common.{refl}
use Rattle.proxy_server.proofs.working.MinerServerLinkServer.serve.Goals as goal

pub returns-clause-served : goal.returns-clause-served
returns-clause-served g c = (
  refl,
  c.serve_miner_link.ensures.pass,
  record { ended = c.serve_miner_link.result; served = c.serve_miner_link.ensures.served; same = refl },
)
