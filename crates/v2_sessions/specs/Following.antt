-- When a share is booked after it was briefed (this project's own).
use Rattle.std.specs.Prelude.{◌≡◌, false, Result, Ok, Err}
use Rattle.pool_history.specs.declared.asking.Request.{Request}
use Rattle.pool_history.specs.declared.replies.Reply.{Reply}
use Rattle.pool_history.specs.declared.replies.Reply.TheVariants as reply
use Rattle.pool_history.specs.declared.shares.Submission.{Submission}
use Rattle.pool_history.specs.Headers.{Briefing, rolled_length}
use Rattle.session_steps.specs.declared.about.About.{About}
use Rattle.session_steps.specs.declared.about.About.TheVariants.{Share}
use Rattle.session_steps.specs.States.{is_booked}
use Rattle.session_steps.specs.Steps.{Books}

-- a share that is briefed rolls as many bytes as its channel
abbrev pub RollsAsAsked : About → Reply → Type 0
RollsAsAsked about answer =
    (sub : Submission) (brief : Briefing) → about ≡ Share sub → answer ≡ reply.Brief brief
    → sub.extranonce_len ≡ rolled_length brief.kind brief.lead

-- the share is booked with its brief, or the reply comes back
abbrev pub FollowsReply : About → Reply → Result Request Reply → Type 0
FollowsReply about answer (Ok asked) =
    (brief : Briefing) × (answer ≡ reply.Brief brief) × Books about brief asked
FollowsReply about answer (Err back) = (back ≡ answer) × (is_booked about answer ≡ false)
