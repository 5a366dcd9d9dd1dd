use Rattle.std.proofs.Common.{◌≡◌, ℕ, List, ◌++◌, length}
use Rattle.pool_io.specs.Outside.{AddsBytes}
use Rattle.pool_network.proofs.putting.put_whole.Given as goal

abbrev pub invariant-loop-rest : goal.invariant-loop-rest
invariant-loop-rest g l = record {
  counted : (g.L.Link.seen l.link).sink.faults ≡ (g.L.Link.seen l.initial.link).sink.faults;
  source : (g.L.Link.seen l.link).source ≡ (g.L.Link.seen l.initial.link).source;
  put : (front : List ℕ) × (front ++ l.rest ≡ l.bytes) × AddsBytes (g.L.Link.seen l.initial.link).sink.held (g.L.Link.seen l.link).sink.held front;
}

abbrev pub decreases-loop-rest : goal.decreases-loop-rest
decreases-loop-rest g l = length l.rest
