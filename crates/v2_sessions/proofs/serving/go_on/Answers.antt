use Rattle.std.proofs.Common.{refl}
use Rattle.session_steps.specs.States.{Over}
use Rattle.v2_sessions.specs.Standing.{state_at}
use Rattle.v2_sessions.proofs.Chains.{runs_none, runs_on}
use Rattle.v2_sessions.proofs.Moves.{left_runs}
use Rattle.v2_sessions.proofs.Openings.{begun_is, unread_runs}
use Rattle.v2_sessions.proofs.serving.go_on.Goals as goal

pub returns-in_default-clause-rest : goal.returns-in_default-clause-rest
returns-in_default-clause-rest g c = unread_runs c.args.manner c.args.waiting c.args.piece.now

pub returns-clause-rest : goal.returns-clause-rest
returns-clause-rest g c =
    let conversation = c.new-conversation.result in
    let listener = c.in-Ok.listener in
    let begins = begun_is listener conversation c.args.manner c.args.waiting c.args.piece.now c.in-Ok.ensures.waiting c.in-Ok.ensures.none
    c.new-conversation.ensures.talk c.new-conversation.ensures.entered c.new-conversation.ensures.cursor in
    let serves = c.serve-end.ensures.serves in
    record {
      last = state_at (Over c.leave.result) serves.intake c.serve-end.new.self;
      over = refl;
      runs = runs_on (runs_none begins)
          (runs_on serves.runs (left_runs serves.intake c.serve-end.new.self c.serve-end.result c.leave.result c.leave.ensures.leaves));
    }
