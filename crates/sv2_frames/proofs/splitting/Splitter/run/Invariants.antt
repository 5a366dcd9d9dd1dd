use Rattle.std.proofs.Common.{take}
use Rattle.std.specs.List.{flat_map}
use Rattle.sv2_frames.specs.declared.running.RunEnd.TheVariants.{Done}
use Rattle.sv2_frames.specs.Running.{RunsOver}
use Rattle.sv2_frames.proofs.splitting.Splitter.run.Given as goal

abbrev pub invariant-loop-piece : goal.invariant-loop-piece
invariant-loop-piece g l =
    RunsOver g.T.TakeFrames.takes l.fn.self (flat_map (λ piece. piece.now) (take l.piece-index l.fn.pieces)) l.fn.taker Done l.self l.taker
