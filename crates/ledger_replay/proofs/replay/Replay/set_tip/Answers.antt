use Rattle.std.proofs.Common.{refl}
use Rattle.pool_history.specs.declared.events.Event.TheVariants as event
use Rattle.pool_history.specs.Legal.{may_feed}
use Rattle.ledger_replay.specs.Replays.{tables_of}
use Rattle.ledger_replay.proofs.Caused.{by_session}
use Rattle.ledger_replay.proofs.JobsMoved.{tip-refused, tip-taken}
use Rattle.ledger_replay.proofs.replay.Replay.set_tip.Goals as goal

pub returns-in-Some-clause-judged : goal.returns-in-Some-clause-judged
returns-in-Some-clause-judged c past was =
    by_session (tables_of c.args.self.now) past (event.Tip c.args.session c.args.tip.now) may_feed c.args.session _ c.in-Some.cause was refl
    (c.in-Some.ensures past was.sessions_are)

pub returns-in-Ok-clause-judged : goal.returns-in-Ok-clause-judged
returns-in-Ok-clause-judged c past was =
    tip-taken (tables_of c.args.self.now) c.set_tip.new.self past c.args.session _ c.args.tip.now
    c.other_events_leave_sessions.ensures c.other_events_leave_grants.ensures c.moves_are_told.ensures
    was (c.in_default.ensures past was.sessions_are) c.in-Ok.ensures.number c.in-Ok.ensures.takes

pub returns-in-Err-clause-judged : goal.returns-in-Err-clause-judged
returns-in-Err-clause-judged c past was =
    tip-refused (tables_of c.args.self.now) c.set_tip.new.self past c.args.session c.args.tip.now _
    was (c.in_default.ensures past was.sessions_are) c.in-Err.ensures.number c.in-Err.ensures.refused
