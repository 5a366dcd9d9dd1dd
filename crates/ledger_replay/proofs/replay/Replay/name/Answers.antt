use Rattle.std.proofs.Common.{◌∷◌, refl}
use Rattle.pool_history.specs.declared.events.Event.TheVariants as event
use Rattle.pool_history.specs.Channels.{channel_moves}
use Rattle.pool_history.specs.Legal.{may_mine}
use Rattle.history_laws.specs.AskedPlaces.{is_asked_after}
use Rattle.ledger_replay.specs.Replays.{tables_of}
use Rattle.ledger_replay.proofs.Caused.{by_session, fewer-told}
use Rattle.ledger_replay.proofs.ChannelsMoved.{may_get-told, name-refused, name-taken}
use Rattle.ledger_replay.proofs.replay.Replay.name.Goals as goal

pub returns-in-Some-clause-judged : goal.returns-in-Some-clause-judged
returns-in-Some-clause-judged c past was =
    by_session (tables_of c.args.self.now) past (event.Name c.args.session c.args.channel c.args.account) may_mine c.args.session _ c.in-Some.cause was refl
    (c.in-Some.ensures past was.sessions_are)

pub returns-then-not-may_be_named-clause-judged : goal.returns-then-not-may_be_named-clause-judged
returns-then-not-may_be_named-clause-judged c past was =
    name-refused (tables_of c.args.self.now) past c.args.session c.args.channel c.args.account
    was (c.in_default.ensures past was.sessions_are)
    (may_get-told (tables_of c.args.self.now) past c.args.session c.args.channel c.args.account _ _ was c.own.ensures (cc))

pub returns-clause-judged : goal.returns-clause-judged
returns-clause-judged c past was =
    name-taken (tables_of c.args.self.now) c.apply.new.self past c.args.session c.args.channel c.args.account
    c.other_events_leave_sessions.ensures c.other_events_leave_grants.ensures was (c.in_default.ensures past was.sessions_are)
    (may_get-told (tables_of c.args.self.now) past c.args.session c.args.channel c.args.account _ _ was c.own.ensures (cc))
    (c.apply.ensures.told (is_asked_after (event.Name c.args.session c.args.channel c.args.account ∷ past)) (channel_moves past) tt
    (fewer-told (tables_of c.args.self.now) past (event.Name c.args.session c.args.channel c.args.account) was))
