use Rattle.std.proofs.Common.{◌∷◌, refl}
use Rattle.pool_history.specs.declared.events.Event.TheVariants as event
use Rattle.pool_history.specs.Channels.{channel_moves}
use Rattle.pool_history.specs.Legal.{may_anything}
use Rattle.history_laws.specs.AskedPlaces.{is_asked_after}
use Rattle.ledger_replay.specs.Replays.{tables_of}
use Rattle.ledger_replay.proofs.Caused.{by_own, by_session, fewer-told, one-longer}
use Rattle.ledger_replay.proofs.replay.Replay.leave.Goals as goal

pub returns-in-Some-clause-judged : goal.returns-in-Some-clause-judged
returns-in-Some-clause-judged c past was =
    by_session (tables_of c.args.self.now) past (event.Leave c.args.session) may_anything c.args.session _ c.in-Some.cause was refl
    (c.in-Some.ensures past was.sessions_are)

pub returns-clause-judged : goal.returns-clause-judged
returns-clause-judged c past was = record {
  legal = (
    was.legal,
    by_own (tables_of c.args.self.now) past (event.Leave c.args.session) may_anything c.args.session _ was refl
        (c.in_default.ensures past was.sessions_are),
  );
  rules_are = was.rules_are;
  events_are = one-longer c.args.self.now.events (event.Leave c.args.session) past was.events_are;
  sessions_are = c.leave.ensures past was.sessions_are;
  channels_are = c.leave-2.ensures (is_asked_after (event.Leave c.args.session ∷ past)) (channel_moves past)
      (fewer-told (tables_of c.args.self.now) past (event.Leave c.args.session) was);
  jobs_are = was.jobs_are;
  coinbases = was.coinbases;
  grants_are = c.other_events_leave_grants.ensures c.args.self.now.grants past (event.Leave c.args.session) refl was.grants_are;
  booked = was.booked;
}
