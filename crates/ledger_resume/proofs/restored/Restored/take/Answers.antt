use Rattle.std.proofs.Common.{◌≡◌, List, [], ◌∷◌, ◌++◌, refl, ap, sym, ◌∙◌}
use Rattle.pool_history.specs.Sessions.{past_of}
use Rattle.ledger_resume.proofs.Continued.{illegal_leads, next_by, pushed_block, pushed_legal}
use Rattle.ledger_resume.proofs.restored.Restored.take.Goals as goal

pub returns-in_default-2 : goal.returns-in_default-2
returns-in_default-2 c =
    let caused = rw c.in_default-2.is at (c.in_ok-is_block.ensures (past_of c.args.self.now.history.events) c.requires.replayed) in
    illegal_leads c.args.self.now c.requires c.args.bytes.now c.in-Some.event c.read_unit.new.hash (rw c.in-Some.is at c.in_ok-event.ensures.some) caused.0 caused.1

pub push-requires-clause-legal : goal.push-requires-clause-legal
push-requires-clause-legal c =
    let told = rw c.in-Some-2.is at (c.in_ok-is_block.ensures (past_of c.args.self.now.history.events) c.requires.replayed) in
    pushed_legal c.args.self.now.history.events c.reserve.new.self.events c.in-Some.event c.in_ok-again.again c.in_ok-reserve.ensures.same
    (sym (c.in_ok-again.ensures c.args.self.now.hash c.in-Some.event c.read_unit.new.hash (rw c.in-Some.is at c.in_ok-event.ensures.some))) told.0.legal

pub push-requires-clause-block : goal.push-requires-clause-block
push-requires-clause-block c =
    let told = rw c.in-Some-2.is at (c.in_ok-is_block.ensures (past_of c.args.self.now.history.events) c.requires.replayed) in
    pushed_block c.args.self.now.history.events c.reserve.new.self.events c.in-Some.event c.in_ok-again.again c.in-Some-2.is_block c.in_ok-reserve.ensures.same
    (sym (c.in_ok-again.ensures c.args.self.now.hash c.in-Some.event c.read_unit.new.hash (rw c.in-Some.is at c.in_ok-event.ensures.some))) told.1

pub returns : goal.returns
returns c =
    let told = rw c.in-Some-2.is at (c.in_ok-is_block.ensures (past_of c.args.self.now.history.events) c.requires.replayed) in
    let same : c.in_ok-again.again ≡ c.in-Some.event =
    c.in_ok-again.ensures c.args.self.now.hash c.in-Some.event c.read_unit.new.hash (rw c.in-Some.is at c.in_ok-event.ensures.some) in
    next_by c.args.self.now c.requires c.args.bytes.now c.in-Some.event c.read_unit.new.hash (rw c.in-Some.is at c.in_ok-event.ensures.some) _
    (c.push.ensures ∙ ap (λ h. h ++ c.in_ok-again.again ∷ []) c.in_ok-reserve.ensures.same ∙ ap (λ e. c.args.self.now.history.events ++ e ∷ []) same)
    told.0 refl
