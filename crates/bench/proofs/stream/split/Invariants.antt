use Rattle.sv2_frames.specs.Holding.{IsCutWithin}
use Rattle.bench.proofs.stream.split.Given as goal

abbrev pub invariant-loop-piece : goal.invariant-loop-piece
invariant-loop-piece g l = IsCutWithin l.splitter
