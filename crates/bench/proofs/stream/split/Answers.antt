use Rattle.bench.proofs.stream.split.Goals as goal

pub loop-piece-preserved : goal.loop-piece-preserved
loop-piece-preserved g c = c.in-Done.ensures.ends.2
