use Rattle.std.proofs.Common.{ℕ, refl, sym, ap, ◌∙◌}
use Rattle.test_miner.specs.FeedHearing.{closed_feed}
use Rattle.test_miner.proofs.FeedStanding.{end_holds, end_script}
use Rattle.test_miner.proofs.feed_machine.FeedPartner.input_end.Goals as goal

pub returns-clause-task : goal.returns-clause-task
returns-clause-task c = end_script c.held-held.result c.args.self.now.ear.course c.close.new.self c.close.ensures.state

pub returns-clause-told : goal.returns-clause-told
returns-clause-told c = λ past told taken.
    let knows = c.close.ensures.state ∙ ap (λ (n : ℕ). closed_feed n c.args.self.now.ear.course) c.held-held.ensures.count in
    (end_holds c.args.self.now _ past told taken.0 refl knows, c.close.ensures.end)
