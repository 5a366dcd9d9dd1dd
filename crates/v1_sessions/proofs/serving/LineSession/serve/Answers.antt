use Rattle.std.proofs.Common.{refl}
use Rattle.session_steps.specs.States.{Over}
use Rattle.v1_sessions.specs.Chains.{runs_on}
use Rattle.v1_sessions.proofs.Moves.{left_runs, with_v1}
use Rattle.v1_sessions.proofs.serving.LineSession.serve.Goals as goal

pub returns-clause-served : goal.returns-clause-served
returns-clause-served g c =
    let last = c.hear_lines-end.ensures.hears.last in
    let ends = c.hear_lines-end.ensures.hears.ends_so.1 in
    let conversation = c.hear_lines-end.new.talker.conversation.now in
    record {
      last = with_v1 last conversation ends.v1 (Over c.leave.result);
      over = refl;
      runs = runs_on ends.runs (left_runs c.args.self.now.terms.now last conversation ends.v1 c.hear_lines-end.result c.leave.result c.leave.ensures.leaves);
    }
