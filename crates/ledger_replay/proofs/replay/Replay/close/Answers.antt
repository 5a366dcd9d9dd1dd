use Rattle.std.proofs.Common.{◌∷◌, refl}
use Rattle.std.proofs.lemmas.Bool.{false≢true}
use Rattle.pool_history.specs.declared.events.Event.TheVariants as event
use Rattle.pool_history.specs.Channels.{channel_moves}
use Rattle.pool_history.specs.Legal.{may_mine}
use Rattle.history_laws.specs.AskedPlaces.{is_asked_after}
use Rattle.ledger_replay.specs.Replays.{tables_of}
use Rattle.ledger_replay.proofs.Caused.{by_session, fewer-told}
use Rattle.ledger_replay.proofs.ChannelsMoved.{close-refused, close-taken}
use Rattle.ledger_replay.proofs.replay.Replay.close.Goals as goal

pub returns-in-Some-clause-judged : goal.returns-in-Some-clause-judged
returns-in-Some-clause-judged c past was =
    by_session (tables_of c.args.self.now) past (event.Close c.args.session c.args.channel) may_mine c.args.session _ c.in-Some.cause was refl
    (c.in-Some.ensures past was.sessions_are)

pub returns-in-Ok-clause-judged : goal.returns-in-Ok-clause-judged
returns-in-Ok-clause-judged c past was =
    close-taken (tables_of c.args.self.now) c.close.new.self past c.args.session c.args.channel
    c.other_events_leave_sessions.ensures c.other_events_leave_grants.ensures was (c.in_default.ensures past was.sessions_are)
    (λ none. false≢true (c.in-Ok.ensures.not_open.1 none)) (c.in-Ok.ensures.told
    (is_asked_after (event.Close c.args.session c.args.channel ∷ past)) (channel_moves past)
    (fewer-told (tables_of c.args.self.now) past (event.Close c.args.session c.args.channel) was))

pub returns-in-Err-clause-judged : goal.returns-in-Err-clause-judged
returns-in-Err-clause-judged c past was =
    close-refused (tables_of c.args.self.now) c.close.new.self past c.args.session c.args.channel
    was (c.in_default.ensures past was.sessions_are) (c.in-Err.ensures.not_open.0 refl) c.in-Err.ensures.refused
