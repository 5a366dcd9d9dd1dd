use Rattle.std.proofs.Common.{Ok, subst}
use Rattle.link_hearing.specs.Hearing.{end_of}
use Rattle.proxy_rules.specs.declared.requests.ProxyRequest.TheVariants as request
use Rattle.proxy_server.specs.Calls.{MakesCall}
use Rattle.proxy_server.specs.Links.{PutsNews}
use Rattle.proxy_server.proofs.Leading.{polled, polled_not}
use Rattle.proxy_server.proofs.news.tell_news.Goals as goal

pub returns-in-Err-clause-polls : goal.returns-in-Err-clause-polls
returns-in-Err-clause-polls g c = λ tongue unmet.
    polled_not tongue g.A.ProxyAsking.does unmet c.args.cursor.now c.args.cursor.now c.args.asking.now c.ask.new.self (g.L.Link.seen c.args.link.now).sink _ c.in-Err.ensures.call

pub returns-clause-polls : goal.returns-clause-polls
returns-clause-polls g c = λ tongue unmet.
    polled tongue g.A.ProxyAsking.does unmet c.args.cursor.now c.put_news.new.cursor c.args.asking.now c.ask.new.self (g.L.Link.seen c.args.link.now).sink (g.L.Link.seen c.put_news.new.link).sink
    c.in-Bytes.news (end_of c.put_news.result)
    (subst (λ answer. MakesCall g.A.ProxyAsking.does c.args.asking.now (request.Poll c.args.cursor.now) (Ok answer) c.ask.new.self) c.in-Bytes.is c.in-Ok.ensures.call)
    (subst (λ news. PutsNews c.args.cursor.now news (g.L.Link.seen c.args.link.now).sink (end_of c.put_news.result) c.put_news.new.cursor (g.L.Link.seen c.put_news.new.link).sink) c.bytes.ensures c.put_news.ensures.puts)
