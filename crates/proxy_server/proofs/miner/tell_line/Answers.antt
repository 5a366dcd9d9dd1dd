use Rattle.std.proofs.Common.{◌∷◌, ◌++◌, Ok, Err, false, true, refl, subst}
use Rattle.link_hearing.specs.Hearing.{end_of}
use Rattle.proxy_rules.specs.declared.requests.ProxyRequest.TheVariants as request
use Rattle.proxy_server.specs.Calls.{MakesCall}
use Rattle.proxy_server.specs.Links.{Lines, link_at}
use Rattle.proxy_server.proofs.Leading.{lacked, leads_on, told, told_not}
use Rattle.proxy_server.proofs.miner.tell_line.Goals as goal

pub returns-in_default-clause-leads : goal.returns-in_default-clause-leads
returns-in_default-clause-leads g c = λ rest.
    lacked Lines g.A.ProxyAsking.does (link_at (c.args.line.now ++ 10 ∷ rest) c.args.cursor.now false) (link_at rest c.args.cursor.now false) c.args.asking.now (g.L.Link.seen c.args.link.now).sink

pub returns-in_default-asked-clause-leads : goal.returns-in_default-asked-clause-leads
returns-in_default-asked-clause-leads g c = λ rest.
    told_not Lines g.A.ProxyAsking.does (c.args.line.now ++ 10 ∷ rest) c.args.line.now rest c.args.cursor.now (link_at rest c.args.cursor.now false) c.args.asking.now c.ask-asked.new.self
    (g.L.Link.seen c.args.link.now).sink c.in_default-asked.field-0 (c.requires.text, refl)
    (subst (λ line. MakesCall g.A.ProxyAsking.does c.args.asking.now (request.Line line) (Err c.in_default-asked.field-0) c.ask-asked.new.self) c.in-Ok.ensures c.in_default-asked.ensures.call)

pub returns-clause-leads : goal.returns-clause-leads
returns-clause-leads g c = λ rest.
    leads_on Lines g.A.ProxyAsking.does (end_of c.tell_news.result) (link_at (c.args.line.now ++ 10 ∷ rest) c.args.cursor.now false) (link_at rest c.args.cursor.now true)
    (link_at rest c.tell_news.new.cursor false) c.args.asking.now c.ask-asked.new.self c.tell_news.new.asking (g.L.Link.seen c.args.link.now).sink (g.L.Link.seen c.args.link.now).sink
    (g.L.Link.seen c.tell_news.new.link).sink
    (told Lines g.A.ProxyAsking.does (c.args.line.now ++ 10 ∷ rest) c.args.line.now rest c.args.cursor.now c.args.asking.now c.ask-asked.new.self (g.L.Link.seen c.args.link.now).sink c.in-Ok-asked._reply
    (c.requires.text, refl)
    (subst (λ line. MakesCall g.A.ProxyAsking.does c.args.asking.now (request.Line line) (Ok c.in-Ok-asked._reply) c.ask-asked.new.self) c.in-Ok.ensures c.in-Ok-asked.ensures.call))
    (c.tell_news.ensures.polls Lines rest).0
