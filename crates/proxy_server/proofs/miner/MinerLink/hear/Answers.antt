use Rattle.std.proofs.Common.{inl, inr, ℕ, [], true, false, None, Some, refl, subst}
use Rattle.link_turns.specs.declared.waiting.Waiting.{Waiting}
use Rattle.link_hearing.specs.Hearing.{HearsAll, hearing_at}
use Rattle.proxy_server.specs.Links.{LeadsOn, Lines, link_at}
use Rattle.proxy_server.specs.Serving.{HearsMiner, stand_at}
use Rattle.proxy_server.proofs.Hearing.{hears_all}
use Rattle.proxy_server.proofs.miner.MinerLink.hear.Goals as goal

pub returns-in-Ok-clause-same : goal.returns-in-Ok-clause-same
returns-in-Ok-clause-same g c =
    (hears_all (λ miner. stand_at miner.reader miner.cursor miner.asking.now) (λ miner. miner.asking.ghost_name) _ (HearsMiner g.A.ProxyAsking.does) (λ old new k l told over h. h) c.new.result _
    c.hear_turns.new.hearer (g.L.Link.seen c.tell_news.new.link) (g.L.Link.seen c.hear_turns.new.link) c.hear_turns.result c.hear_turns.ensures.hears).0

pub returns-in-Ok-clause-hears : goal.returns-in-Ok-clause-hears
returns-in-Ok-clause-hears g c =
    let heard =
    hears_all (λ miner. stand_at miner.reader miner.cursor miner.asking.now) (λ miner. miner.asking.ghost_name) _ (HearsMiner g.A.ProxyAsking.does) (λ old new k l told over h. h) c.new.result _
    c.hear_turns.new.hearer (g.L.Link.seen c.tell_news.new.link) (g.L.Link.seen c.hear_turns.new.link) c.hear_turns.result c.hear_turns.ensures.hears in
    inl (record {
      stand = stand_at c.args.self.now.reader c.tell_news.new.cursor c.tell_news.new.asking;
      middle = g.L.Link.seen c.tell_news.new.link;
      held = c.requires.new.0;
      source = c.tell_news.ensures.source;
      polled = subst (λ (n : ℕ). LeadsOn Lines g.A.ProxyAsking.does (link_at [] n true) c.args.self.now.asking.now (g.L.Link.seen c.args.link.now).sink None
          (link_at [] c.tell_news.new.cursor false) c.tell_news.new.asking (g.L.Link.seen c.tell_news.new.link).sink) c.requires.new.1 (c.in-Ok.ensures.polls Lines []).0;
      left = stand_at c.hear_turns.new.hearer.reader c.hear_turns.new.hearer.cursor c.hear_turns.new.hearer.asking.now;
      turns = subst
          (λ (w : Waiting). HearsAll (HearsMiner g.A.ProxyAsking.does)
          (hearing_at w (stand_at c.args.self.now.reader c.tell_news.new.cursor c.tell_news.new.asking) (g.L.Link.seen c.tell_news.new.link)) c.hear_turns.result
          (stand_at c.hear_turns.new.hearer.reader c.hear_turns.new.hearer.cursor c.hear_turns.new.hearer.asking.now) (g.L.Link.seen c.hear_turns.new.link)) c.new.ensures heard.1;
      asking = refl;
    })

pub returns-in-Err-clause-hears : goal.returns-in-Err-clause-hears
returns-in-Err-clause-hears g c = inr (record {
  cursor = c.tell_news.new.cursor;
  source = c.tell_news.ensures.source;
  polled = subst (λ (n : ℕ). LeadsOn Lines g.A.ProxyAsking.does (link_at [] n true) c.args.self.now.asking.now (g.L.Link.seen c.args.link.now).sink (Some c.in-Err.end)
      (link_at [] c.tell_news.new.cursor false) c.tell_news.new.asking (g.L.Link.seen c.tell_news.new.link).sink) c.requires.new.1 (c.in-Err.ensures.polls Lines []).0;
})
