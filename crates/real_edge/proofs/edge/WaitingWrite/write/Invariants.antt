use Rattle.std.specs.Io.KnownBytes.{Keeps}
use Rattle.real_edge.proofs.edge.WaitingWrite.write.Given as goal

-- what found no room wrote nothing
abbrev pub invariant-loop : goal.invariant-loop
invariant-loop g l = Keeps (g.W.Write.contents l.initial.self.writer) (g.W.Write.contents l.self.writer)
