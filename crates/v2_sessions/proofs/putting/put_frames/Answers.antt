use Rattle.std.proofs.Common.{◌∙◌, ap}
use Rattle.session_steps.specs.Answers.{answer_frames}
use Rattle.session_steps.specs.Steps.{writes_after_put}
use Rattle.std.proofs.Common.{Some}
use Rattle.std.proofs.lemmas.Result.{err_from_is_err_and}
use Rattle.v2_sessions.proofs.Parts.{part_more, part_front}
use Rattle.v2_sessions.proofs.putting.put_frames.Goals as goal

pub returns-in_err-put_bytes : goal.returns-in_err-put_bytes
returns-in_err-put_bytes g c =
    let part = rw c.in-Ok-true.field-0-test at c.in-Ok-true.ensures.ok in
    let puts = rw c.deref.ensures.value at c.in_err-put_bytes.ensures in
    let front = part_front (answer_frames c.args.session.now c.args.reply.now) (g.L.Link.seen c.args.link.now).sink.held (g.L.Link.seen c.loop-frame.link).sink.held c.loop-frame.part c.on_part.new.part
    c.clear.new.self.items c.on_part.new.out.items c.loop-frame.invariant.put c.clear.ensures.items part puts.bytes (g.L.Link.seen c.put_bytes.new.link).sink.held puts.front puts.added in
    let failed = err_from_is_err_and c.from_residual.result c.from_residual.ensures.1 in
    rw (failed.1, failed.2)
    (record {
      bytes = front.0;
      front = front.1;
      added = front.2;
      source = puts.source ∙ c.loop-frame.invariant.source;
      writes = puts.writes ∙ ap (λ n. writes_after_put n (Some c.in_err-put_bytes.field-0.0)) c.loop-frame.invariant.writes;
    })

pub loop-frame-preserved : goal.loop-frame-preserved
loop-frame-preserved g c =
    let part = rw c.in-Ok-true.field-0-test at c.in-Ok-true.ensures.ok in
    let puts = rw c.deref.ensures.value at c.in_ok-put_bytes.ensures in
    let added = rw puts.front at puts.added in
    record {
      put = part_more (answer_frames c.args.session.now c.args.reply.now) (g.L.Link.seen c.args.link.now).sink.held (g.L.Link.seen c.loop-frame.link).sink.held c.loop-frame.part c.on_part.new.part
          c.clear.new.self.items c.on_part.new.out.items c.loop-frame.invariant.put c.clear.ensures.items part (g.L.Link.seen c.put_bytes.new.link).sink.held added;
      source = puts.source ∙ c.loop-frame.invariant.source;
      writes = puts.writes ∙ c.loop-frame.invariant.writes;
    }
