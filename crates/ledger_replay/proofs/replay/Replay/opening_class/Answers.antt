use Rattle.std.proofs.Common.{refl}
use Rattle.pool_history.specs.declared.events.Event.TheVariants as event
use Rattle.pool_history.specs.Legal.{may_mine}
use Rattle.ledger_replay.specs.Replays.{tables_of}
use Rattle.ledger_replay.proofs.Caused.{by_session}
use Rattle.ledger_replay.proofs.replay.Replay.opening_class.Goals as goal

pub returns-in-Some-clause-refused : goal.returns-in-Some-clause-refused
returns-in-Some-clause-refused c past lead was =
    (by_session (tables_of c.args.self.now) past (event.Open c.args.session c.args.kind c.args.account.now c.args.class lead) may_mine c.args.session _ c.in-Some.cause was refl
    (c.in-Some.ensures past was.sessions_are)).0
