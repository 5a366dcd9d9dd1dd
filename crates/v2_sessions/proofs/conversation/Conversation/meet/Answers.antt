use Rattle.std.proofs.Common.{◌++◌, arith, refl, sym, ap, ◌∙◌}
use Rattle.sv2_frames.specs.Holding.{Holding}
use Rattle.session_steps.specs.States.{most_payload}
use Rattle.session_steps.proofs.Streams.{meets_declares}
use Rattle.v2_sessions.proofs.Chains.{runs_none, runs_on}
use Rattle.v2_sessions.proofs.Asked.{meets_told}
use Rattle.v2_sessions.proofs.Turns.{framed_runs, one_idle, overran_runs, runs_declares, starved_runs}
use Rattle.v2_sessions.proofs.conversation.Conversation.meet.Goals as goal

pub take_step-requires-clause-told : goal.take_step-requires-clause-told
take_step-requires-clause-told g c =
    let met = c.in-Frame.ensures.2 in
    meets_told c.args.self.now.session c.find_next.new.self.session met.frame c.in-Frame.step met.meets

pub returns-in-Nothing-clause-runs : goal.returns-in-Nothing-clause-runs
returns-in-Nothing-clause-runs g c = λ intake rest some.
    let found = c.in-Nothing.ensures in
    rw (found.1, found.2) (runs_none refl)

pub returns-in-Overlong-clause-runs : goal.returns-in-Overlong-clause-runs
returns-in-Overlong-clause-runs g c = λ intake rest some.
    let found = c.in-Overlong.ensures in
    rw (found.1, found.2) (overran_runs intake c.args.self.now c.args.splitter.now rest c.in-Overlong.len c.requires.limit found.0)

pub returns-in-Memory-clause-runs : goal.returns-in-Memory-clause-runs
returns-in-Memory-clause-runs g c = λ intake rest some.
    let found = c.in-Memory.ensures in
    rw (found.0, found.1) (starved_runs (record intake { unmet = c.args.splitter.now.held ++ rest }) c.args.self.now)

pub returns-in-Frame-clause-runs : goal.returns-in-Frame-clause-runs
returns-in-Frame-clause-runs g c = λ intake rest some.
    let found = c.in-Frame.ensures in
    rw found.1
    (runs_on (framed_runs intake c.args.self.now c.args.splitter.now rest c.in-Frame.step c.find_next.new.self c.requires.limit found.2)
    (c.take_step.ensures.runs (record intake { unmet = rest }) some))

pub returns-in-Frame-clause-limit : goal.returns-in-Frame-clause-limit
returns-in-Frame-clause-limit g c =
    let found = c.in-Frame.ensures in
    let met = found.2 in
    let same = meets_declares c.args.self.now.session c.find_next.new.self.session met.frame c.in-Frame.step met.meets in
    ap (λ (h : Holding). h.limit) found.1 ∙ c.requires.limit
    ∙ sym (ap most_payload (runs_declares (c.take_step.ensures.runs one_idle (omega arith)) ∙ same))
