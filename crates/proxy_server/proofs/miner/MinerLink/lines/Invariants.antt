use Rattle.std.proofs.Common.{◌≡◌, ◌++◌, length, false, None}
use Rattle.v1_lines.specs.Lines.{IsLineText}
use Rattle.proxy_server.specs.Links.{LeadsOn, Lines, link_at}
use Rattle.proxy_server.proofs.miner.MinerLink.lines.Given as goal

abbrev pub invariant-loop-rest : goal.invariant-loop-rest
invariant-loop-rest g l = record {
  ready : g.A.ProxyAsking.ready l.self.asking.now;
  same : l.self.asking.ghost_name ≡ l.initial.self.asking.ghost_name;
  source : (g.L.Link.seen l.link).source ≡ (g.L.Link.seen l.initial.link).source;
  text : IsLineText l.self.reader;
  so_far :
      LeadsOn
      Lines g.A.ProxyAsking.does (link_at (l.initial.self.reader ++ l.piece) l.initial.self.cursor false)
      l.initial.self.asking.now (g.L.Link.seen l.initial.link).sink None
      (link_at (l.self.reader ++ l.rest) l.self.cursor false) l.self.asking.now (g.L.Link.seen l.link).sink;
}

abbrev pub decreases-loop-rest : goal.decreases-loop-rest
decreases-loop-rest g l = length l.rest
