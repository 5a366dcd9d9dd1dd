use Rattle.std.proofs.Common.{refl}
use Rattle.proxy_server.specs.Links.{Lines}
use Rattle.proxy_server.proofs.miner.MinerLinkTurnHearer.idle.Goals as goal

pub returns-clause-heard : goal.returns-clause-heard
returns-clause-heard g c = (refl, (c.tell_news.ensures.polls Lines c.args.self.now.reader).0)
