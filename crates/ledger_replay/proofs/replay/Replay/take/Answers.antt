use Rattle.std.proofs.Common.{subst, sym}
use Rattle.pool_history.specs.declared.causes.Cause.TheVariants as cause
use Rattle.pool_history.specs.declared.events.Event.TheVariants as event
use Rattle.ledger_replay.specs.Replays.{HasCause}
use Rattle.ledger_replay.proofs.Caused.{cause-known}
use Rattle.ledger_replay.proofs.replay.Replay.take.Goals as goal

pub returns-in-Start-clause-judged : goal.returns-in-Start-clause-judged
returns-in-Start-clause-judged c past was = (
  subst (λ e. HasCause past e cause.BadStart) (sym c.in-Start.is) (cause-known past (event.Start c.in-Start.field-0) c.args.self.now.rules was.rules_are),
  was,
)
