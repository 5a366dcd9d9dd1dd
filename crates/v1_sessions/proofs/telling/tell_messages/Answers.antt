use Rattle.std.proofs.Common.{Some, map, ap, ◌∙◌}
use Rattle.std.proofs.lemmas.Result.{err_from_is_err_and}
use Rattle.session_steps.specs.Steps.{writes_after_put}
use Rattle.v1_translate.specs.Heard.{Message}
use Rattle.v1_sessions.specs.States.{v1_after}
use Rattle.v1_sessions.specs.Told.{told_in}
use Rattle.v1_sessions.proofs.Parted.{after_more, said_from, told_front, told_more}
use Rattle.v1_sessions.proofs.telling.tell_messages.Goals as goal

pub returns-in_err-put_bytes-clause-puts : goal.returns-in_err-put_bytes-clause-puts
returns-in_err-put_bytes-clause-puts g c =
    let told = told_in c.args.about c.args.reply.now in
    let part = rw c.in-Ok-true.field-0-test at c.in-Ok-true.ensures in
    let puts = rw c.deref.ensures.value at c.in_err-put_bytes.ensures in
    let front = told_front c.args.terms.now told (said_from c.args.terms.now c.args.v1.now told) c.loop-lines.v1 c.tell_part.new.v1 c.loop-lines.part c.tell_part.new.part
    (g.L.Link.seen c.args.link.now).sink.held (g.L.Link.seen c.loop-lines.link).sink.held c.clear.new.self.items c.tell_part.new.out.items c.loop-lines.invariant.put c.clear.ensures.items part
    puts.bytes (g.L.Link.seen c.put_bytes.new.link).sink.held puts.front puts.added in
    let failed = err_from_is_err_and c.from_residual.result c.from_residual.ensures.1 in
    rw (failed.1, failed.2)
    (record {
      bytes = front.0;
      front = front.1;
      added = front.2;
      source = puts.source ∙ c.loop-lines.invariant.source;
      writes = puts.writes ∙ ap (λ n. writes_after_put n (Some c.in_err-put_bytes.field-0.0)) c.loop-lines.invariant.writes;
    })

pub loop-lines-preserved : goal.loop-lines-preserved
loop-lines-preserved g c =
    let told = told_in c.args.about c.args.reply.now in
    let part = rw c.in-Ok-true.field-0-test at c.in-Ok-true.ensures in
    let puts = rw c.deref.ensures.value at c.in_ok-put_bytes.ensures in
    let added = rw puts.front at puts.added in
    let whole = said_from c.args.terms.now c.args.v1.now told in
    record {
      put = told_more c.args.terms.now told whole c.loop-lines.v1 c.tell_part.new.v1 c.loop-lines.part c.tell_part.new.part
          (g.L.Link.seen c.args.link.now).sink.held (g.L.Link.seen c.loop-lines.link).sink.held c.clear.new.self.items c.tell_part.new.out.items c.loop-lines.invariant.put c.clear.ensures.items part
          (g.L.Link.seen c.put_bytes.new.link).sink.held added;
      after = after_more c.args.terms.now told whole c.loop-lines.v1 c.tell_part.new.v1 c.loop-lines.part c.tell_part.new.part
          (g.L.Link.seen c.args.link.now).sink.held (g.L.Link.seen c.loop-lines.link).sink.held c.clear.new.self.items c.tell_part.new.out.items c.loop-lines.invariant.put c.clear.ensures.items part
          (v1_after c.args.terms.now c.args.v1.now (map Message told)) c.loop-lines.invariant.after;
      source = puts.source ∙ c.loop-lines.invariant.source;
      writes = puts.writes ∙ c.loop-lines.invariant.writes;
    }
