use Rattle.std.proofs.Common.{refl}
use Rattle.sv2_frames.proofs.Standing.{frame_is_held}
use Rattle.v2_sessions.proofs.conversation.Conversation.find.Goals as goal

pub returns-in-Ok : goal.returns-in-Ok
returns-in-Ok c =
    let frame = c.in-Ok-Some.frame in
    let held = rw c.in-Ok-Some.field-0-is at c.in-Ok-Some.ensures.frame in (
      frame_is_held frame.ext frame.kind frame.payload.now c.args.splitter.now held,
      record {
        frame = record { ext = frame.ext; kind = frame.kind; payload = frame.payload.now };
        whole = held.whole;
        fits = held.fits;
        within = held.within;
        meets = c.in-Ok.ensures.ok;
        entered = refl;
        cursor = refl;
      },
    )
