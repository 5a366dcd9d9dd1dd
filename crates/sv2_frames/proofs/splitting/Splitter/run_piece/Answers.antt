use Rattle.std.proofs.Common.{refl}
use Rattle.sv2_frames.proofs.Handing.{run_over, run_done, run_stopped, run_more}
use Rattle.sv2_frames.proofs.splitting.Splitter.run_piece.Goals as goal

pub returns-in-Err : goal.returns-in-Err
returns-in-Err g c =
    let fed = c.feed-at.ensures in
    run_over _ _ _ _ _ _ _ _ _ _ c.loop-len.invariant (record { bytes = fed.bytes; limit = fed.limit; within = fed.within }) c.in-Err.ensures.too_long

pub returns-in-Ok-None : goal.returns-in-Ok-None
returns-in-Ok-None g c =
    let fed = c.feed-at.ensures in
    let none = rw c.in-Ok-None.field-0-is at c.in-Ok-None.ensures.none in
    let cut = none.0 refl in
    run_done _ _ _ _ _ _ _ _ _ c.loop-len.invariant (record { bytes = fed.bytes; limit = fed.limit; within = fed.within }) (fed.all cut) cut

pub returns-then-not-more : goal.returns-then-not-more
returns-then-not-more g c =
    let fed = c.feed-at.ensures in
    let frame = c.in-Ok-Some.frame in
    let held = rw c.in-Ok-Some.field-0-is at c.in-Ok-Some.ensures.frame in
    rw c.drop_frame.ensures.empty
    (run_stopped _ _ _ _ _ _ _ _ _ _ (record { ext = frame.ext; kind = frame.kind; payload = frame.payload.now }) c.loop-len.invariant
    (record { fed = record { bytes = fed.bytes; limit = fed.limit; within = fed.within }; fits = held.fits; within = held.within; whole = held.whole })
    c.if-not-more.ensures)

pub loop-len-preserved : goal.loop-len-preserved
loop-len-preserved g c =
    let fed = c.feed-at.ensures in
    let frame = c.in-Ok-Some.frame in
    let held = rw c.in-Ok-Some.field-0-is at c.in-Ok-Some.ensures.frame in
    rw c.drop_frame.ensures.empty
    (run_more _ _ _ _ _ _ _ _ _ _ (record { ext = frame.ext; kind = frame.kind; payload = frame.payload.now }) c.loop-len.invariant
    (record { fed = record { bytes = fed.bytes; limit = fed.limit; within = fed.within }; fits = held.fits; within = held.within; whole = held.whole })
    c.if-not-more.ensures)
