use Rattle.std.proofs.Common.{◌≡◌, ℕ, List, ◌++◌, length}
use Rattle.pool_io.specs.Outside.{AddsBytes}
use Rattle.stream_commands.proofs.putting.put_all.Given as goal

abbrev pub invariant-loop-rest : goal.invariant-loop-rest
invariant-loop-rest g l = record {
  kept : (g.T.Sink.seen l.sink).faults ≡ (g.T.Sink.seen l.initial.sink).faults;
  put : (front : List ℕ) × (front ++ l.rest ≡ l.bytes) × AddsBytes (g.T.Sink.seen l.initial.sink).held (g.T.Sink.seen l.sink).held front;
}

abbrev pub decreases-loop-rest : goal.decreases-loop-rest
decreases-loop-rest g l = length l.rest
