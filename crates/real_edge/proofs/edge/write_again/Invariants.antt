use Rattle.std.specs.Io.KnownBytes.{Keeps}
use Rattle.real_edge.proofs.edge.write_again.Given as goal

-- what was broken off wrote nothing
abbrev pub invariant-loop : goal.invariant-loop
invariant-loop g l = Keeps (g.W.Write.contents l.initial.writer) (g.W.Write.contents l.writer)
