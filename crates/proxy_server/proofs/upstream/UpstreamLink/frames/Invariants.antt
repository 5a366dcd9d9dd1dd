use Rattle.std.proofs.Common.{◌≡◌, ◌++◌, length, false, None}
use Rattle.sv2_frames.specs.Holding.{IsCutWithin}
use Rattle.proxy_server.specs.declared.phase.UpPhase.TheVariants.{Unfit}
use Rattle.proxy_server.specs.Frames.{most_payload}
use Rattle.proxy_server.specs.Upstreams.{LeadsUp, up_at}
use Rattle.proxy_server.proofs.upstream.UpstreamLink.frames.Given as goal

abbrev pub invariant-loop-rest : goal.invariant-loop-rest
invariant-loop-rest g l = record {
  ready : g.A.ProxyAsking.ready l.self.asking.now;
  same : l.self.asking.ghost_name ≡ l.initial.self.asking.ghost_name;
  source : (g.L.Link.seen l.link).source ≡ (g.L.Link.seen l.initial.link).source;
  limit : l.self.splitter.limit ≡ most_payload;
  cut : IsCutWithin l.self.splitter;
  fit : l.self.phase ≡ Unfit → ⊥;
  so_far :
      LeadsUp
      g.A.ProxyAsking.does (up_at (l.initial.self.splitter.held ++ l.piece) l.initial.self.cursor false l.initial.self.phase)
      l.initial.self.asking.now (g.L.Link.seen l.initial.link).sink None
      (up_at (l.self.splitter.held ++ l.rest) l.self.cursor false l.self.phase) l.self.asking.now (g.L.Link.seen l.link).sink;
}

abbrev pub decreases-loop-rest : goal.decreases-loop-rest
decreases-loop-rest g l = length l.rest
