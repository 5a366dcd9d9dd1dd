use Rattle.std.proofs.Common.{None, ap, ◌∙◌}
use Rattle.session_steps.specs.Talks.{heard}
use Rattle.v2_sessions.proofs.Moves.{answered_leads}
use Rattle.v2_sessions.proofs.conversation.Conversation.hear.Goals as goal

pub returns : goal.returns
returns g c =
    let talk = c.follow.ensures.heard ∙ ap (λ s. heard s.session c.args.reply) c.enter.ensures in
    let back = c.in-Err.ensures.booking in
    record {
      fault = None;
      put = rw (back.0, talk) at c.in-Ok-put_frames.ensures;
      talk = talk;
      entered = ap (λ s. s.entered) c.enter.ensures;
      cursor = ap (λ s. s.cursor) c.enter.ensures;
      leads = λ idles. answered_leads c.args.reply c.after_answer.result _ _ idles (rw c.follow.ensures.heard back.1) (rw back.0 at c.after_answer.ensures);
    }
