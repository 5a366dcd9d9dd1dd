use Rattle.std.proofs.Common.{refl}
use Rattle.link_hearing.specs.Hearing.{end_of}
use Rattle.proxy_server.specs.Links.{Frames}
use Rattle.proxy_server.proofs.Uplinks.{news_no_setup, up_polled}
use Rattle.proxy_server.proofs.upstream.UpstreamLinkTurnHearer.idle.Goals as goal

pub returns-clause-heard : goal.returns-clause-heard
returns-clause-heard g c = (
  refl,
  up_polled g.A.ProxyAsking.does (end_of c.tell_news.result) c.args.self.now.splitter.held c.args.self.now.cursor c.tell_news.new.cursor c.args.self.now.phase c.args.self.now.asking.now
      c.tell_news.new.asking (g.L.Link.seen c.args.link.now).sink (g.L.Link.seen c.tell_news.new.link).sink (c.tell_news.ensures.polls Frames c.args.self.now.splitter.held)
      (news_no_setup c.tell_news.result c.tell_news.ensures.ends) c.requires.1.1,
)
