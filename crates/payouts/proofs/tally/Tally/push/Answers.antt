use Rattle.std.proofs.Common.{◌∙◌, ap, subst}
use Rattle.payouts.specs.Tallies.{IsPushed}
use Rattle.payouts.proofs.Told.{told_push-room}
use Rattle.payouts.proofs.Totalled.{summed_push-room}
use Rattle.payouts.proofs.tally.Tally.push.Goals as goal

pub returns-clause-told : goal.returns-clause-told
returns-clause-told c =
    told_push-room c.args.self.now c.make_room.new.self c.take_in.new.self c.args.account.now c.args.work c.requires.some c.make_room.ensures.same
    (subst (λ text. IsPushed c.make_room.new.self c.take_in.new.self text c.args.work) c.in_ok-account.ensures.ok c.take_in.ensures.pushed)

pub returns-clause-summed : goal.returns-clause-summed
returns-clause-summed c =
    summed_push-room c.args.self.now c.make_room.new.self c.take_in.new.self c.args.account.now c.args.work c.make_room.ensures.same
    (subst (λ text. IsPushed c.make_room.new.self c.take_in.new.self text c.args.work) c.in_ok-account.ensures.ok c.take_in.ensures.pushed)

pub returns-clause-window : goal.returns-clause-window
returns-clause-window c = c.take_in.ensures.pushed.window_stays ∙ ap (λ tally. tally.window) c.make_room.ensures.same
