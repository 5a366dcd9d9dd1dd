use Rattle.std.proofs.Common.{refl}
use Rattle.pool_server.proofs.working.SessionServerLinkServer.serve.Goals as goal

pub returns-clause-served : goal.returns-clause-served
returns-clause-served g c = (
  refl,
  c.serve_link.ensures.pass,
  record { reason = c.serve_link.result; served = c.serve_link.ensures.served; same_terms = refl; same_manner = refl },
)
