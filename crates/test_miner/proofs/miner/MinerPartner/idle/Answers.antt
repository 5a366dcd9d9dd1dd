use Rattle.std.proofs.Common.{refl, sym, ◌∙◌}
use Rattle.test_miner.proofs.Standing.{idle_holds, idle_ready, told_so}
use Rattle.test_miner.proofs.miner.MinerPartner.idle.Goals as goal

pub returns-clause-ready : goal.returns-clause-ready
returns-clause-ready c = λ none.
    idle_ready c.args.self.now c.submit.new.self c.requires c.submit.ensures.task c.submit.ensures.splitter c.submit.ensures.lacks (sym c.end.ensures ∙ none)

pub returns-clause-told : goal.returns-clause-told
returns-clause-told c = λ past given taken.
    rw c.in_ok-submit.ensures.share
    (told_so c.submit.new.self _ _ c.end.result
    (idle_holds c.args.self.now c.submit.new.self past given c.args.out.now.items _ taken.0 c.submit.ensures.task c.submit.ensures.splitter c.submit.ensures.course refl)
    c.end.ensures)
