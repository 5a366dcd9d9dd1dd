use Rattle.std.proofs.Common.{Bool, refl, sym, ap, ◌∙◌}
use Rattle.test_miner.specs.Feeds.{greeting_said}
use Rattle.test_miner.proofs.FeedStanding.{piece_holds, piece_ready, piece_script, told_so}
use Rattle.test_miner.proofs.feed_machine.FeedPartner.piece.Goals as goal

pub returns-clause-task : goal.returns-clause-task
returns-clause-task c = piece_script c.args.self.now c.hear_piece.new.self c.close.new.self c.args.piece.now c.in_ok-end.end c.in_ok-end.ensures c.close.ensures.course

pub returns-clause-ready : goal.returns-clause-ready
returns-clause-ready c = λ none.
    piece_ready c.args.self.now c.hear_piece.new.self c.close.new.self c.args.piece.now c.in_ok-end.end c.in_ok-end.ensures c.close.ensures.splitter c.close.ensures.lacks c.close.ensures.course
    (sym c.end.ensures ∙ none)

pub returns-clause-told : goal.returns-clause-told
returns-clause-told c = λ past given taken.
    let middle = c.hear_piece.new.self in
    let greets = ap (λ (was : Bool). greeting_said middle.ear.course.script was middle.ear.course.is_set_up) c.is_set_up-was_set_up.ensures in
    rw c.in_ok-greet.ensures
    (told_so c.close.new.self _ _ c.end.result
    (piece_holds c.args.self.now middle c.close.new.self c.args.piece.now c.in_ok-end.end past given c.args.out.now.items _ c.in_ok-end.ensures c.close.ensures.splitter c.close.ensures.course greets taken.0)
    c.end.ensures)
