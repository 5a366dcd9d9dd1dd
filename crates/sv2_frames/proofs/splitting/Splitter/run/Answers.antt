use Rattle.std.proofs.Common.{◌+◌, take, []}
use Rattle.std.specs.List.{flat_map}
use Rattle.sv2_frames.proofs.Handing.{runs_nothing, runs_then, runs_before, pieces_more, pieces_rest}
use Rattle.sv2_frames.proofs.splitting.Splitter.run.Goals as goal

pub loop-piece-init : goal.loop-piece-init
loop-piece-init g c = runs_nothing _ _ _ c.requires

pub returns-in_default : goal.returns-in_default
returns-in_default g c =
    let pieces = c.args.pieces.now in
    let i = c.loop-piece.piece-index in
    let more = pieces_more (λ piece. piece.now) pieces i (record { ref_ptr = (0, 0); now = [] }) c.loop-piece-test.true in
    rw (pieces_rest (λ piece. piece.now) pieces i)
    (runs_before _ _ _ (flat_map (λ piece. piece.now) (take (i + 1) pieces)) _ _ _ _ c.in_default.not-Done
    (rw more (runs_then _ _ _ _ _ _ _ _ _ _ c.loop-piece.invariant c.run_piece.ensures)))

pub loop-piece-preserved : goal.loop-piece-preserved
loop-piece-preserved g c =
    let more = pieces_more (λ piece. piece.now) c.args.pieces.now c.loop-piece.piece-index (record { ref_ptr = (0, 0); now = [] }) c.loop-piece-test.true in
    rw more (runs_then _ _ _ _ _ _ _ _ _ _ c.loop-piece.invariant c.in-Done.ensures)
