use Rattle.std.proofs.Common.{ap, ◌∙◌}
use Rattle.session_steps.specs.declared.about.About.{About}
use Rattle.session_steps.specs.Talks.{Talk}
use Rattle.v2_sessions.specs.Frames.{frame_value}
use Rattle.v2_sessions.proofs.Declaring.{declared_asked, declared_bad, declared_said}
use Rattle.v2_sessions.proofs.session.Session.on_declaration.Goals as goal

pub returns-in-Say-clause-ok : goal.returns-in-Say-clause-ok
returns-in-Say-clause-ok c =
    let found = rw c.in-Say.is at c.in_ok-bytes.ensures.ok in
    let meets = rw (ap (λ (t : Talk). t.declarations) c.self.view_is) at found in
    declared_said c.args.self.now _ (frame_value c.args.frame.now) c.on_frame.new.self c.requires.taken c.requires.kind c.in-Say.bytes meets
    (ap (λ (t : Talk). record t { declarations = c.on_frame.new.self }) c.self.view_is)

pub returns-in-Ask-clause-ok : goal.returns-in-Ask-clause-ok
returns-in-Ask-clause-ok c =
    let found = rw c.in-Ask.is at c.in_ok-bytes.ensures.ok in
    let meets = rw (ap (λ (t : Talk). t.declarations) c.self.view_is) at found in
    declared_asked c.args.self.now _ (frame_value c.args.frame.now) c.on_frame.new.self c.requires.taken c.requires.kind c.in-Ask.request meets
    (ap (λ (t : Talk). record t { about = c.about_asked-self-inside.result; declarations = c.on_frame.new.self }) c.self.view_is
    ∙ ap (λ (a : About). record c.args.self.now { about = a; declarations = c.on_frame.new.self }) c.about_asked-self-inside.ensures)

pub returns-in-BadMessage-clause-ok : goal.returns-in-BadMessage-clause-ok
returns-in-BadMessage-clause-ok c =
    let found = rw c.in-BadMessage.is at c.in_ok-bytes.ensures.ok in
    let meets = rw (ap (λ (t : Talk). t.declarations) c.self.view_is) at found in
    declared_bad c.args.self.now _ (frame_value c.args.frame.now) c.on_frame.new.self c.requires.taken c.requires.kind c.in-BadMessage.kind meets
    (ap (λ (t : Talk). record t { declarations = c.on_frame.new.self }) c.self.view_is)
