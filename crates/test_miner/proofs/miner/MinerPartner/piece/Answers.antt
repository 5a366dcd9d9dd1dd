use Rattle.std.proofs.Common.{Bool, refl, sym, ap, ◌∙◌}
use Rattle.test_miner.specs.Miners.{opening_said}
use Rattle.test_miner.proofs.Standing.{piece_holds, piece_ready, told_so}
use Rattle.test_miner.proofs.miner.MinerPartner.piece.Goals as goal

pub returns-clause-ready : goal.returns-clause-ready
returns-clause-ready c = λ none.
    piece_ready c.args.self.now c.hear_piece.new.self c.close.new.self c.args.piece.now c.in_ok-end.end c.in_ok-end.ensures.heard c.close.ensures.task c.close.ensures.splitter c.close.ensures.lacks
    c.close.ensures.course (sym c.end.ensures ∙ none)

pub returns-clause-told : goal.returns-clause-told
returns-clause-told c = λ past given taken.
    let middle = c.hear_piece.new.self in
    let opens = ap (λ (was : Bool). opening_said middle.task was middle.ear.course.is_set_up) c.is_set_up-was_set_up.ensures in
    rw (c.in_ok-close.ensures.share, c.in_ok-open.ensures)
    (told_so c.close.new.self _ _ c.end.result
    (piece_holds c.args.self.now middle c.close.new.self c.args.piece.now c.in_ok-end.end past given c.args.out.now.items _ _ c.in_ok-end.ensures.heard c.hear_piece.ensures.task c.close.ensures.task
    c.close.ensures.splitter c.close.ensures.course opens refl taken.0)
    c.end.ensures)
