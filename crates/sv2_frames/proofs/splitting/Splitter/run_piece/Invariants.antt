use Rattle.std.proofs.Common.{◌-◌, length}
use Rattle.sv2_frames.proofs.Handing.{IsRunning}
use Rattle.sv2_frames.proofs.splitting.Splitter.run_piece.Given as goal

abbrev pub invariant-loop-len : goal.invariant-loop-len
invariant-loop-len g l = IsRunning g.T.TakeFrames.takes l.fn.self l.fn.piece l.fn.taker l.at l.self l.taker

abbrev pub decreases-loop-len : goal.decreases-loop-len
decreases-loop-len g l = length l.piece - l.at
