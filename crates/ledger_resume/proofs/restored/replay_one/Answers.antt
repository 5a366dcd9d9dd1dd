use Rattle.ledger_resume.proofs.Blocks.{told_block}
use Rattle.ledger_resume.proofs.restored.replay_one.Goals as goal

pub returns-in-Ok : goal.returns-in-Ok
returns-in-Ok c = λ past was.
    let now = c.in-Ok.ensures.judged past was in (
      now,
      told_block past c.args.event c.args.replay.now.tally c.take.new.self.tally _ _ c.blocks-in-Ok.result c.blocks-blocks.result
          was.booked.sums_are now.booked.sums_are c.blocks-blocks.ensures c.blocks-in-Ok.ensures,
    )
