use Rattle.std.proofs.Common.{◌≡◌, ◌<◌, ◌^◌, true, arith, refl, ◌∙◌}
use Rattle.std.proofs.lemmas.Bool.{lt-ltb}
use Rattle.pool_history.specs.declared.events.Event.TheVariants as event
use Rattle.pool_history.specs.Legal.{are_acceptable}
use Rattle.pool_history.specs.Sessions.{enters}
use Rattle.ledger_replay.specs.Replays.{tables_of}
use Rattle.ledger_replay.proofs.Caused.{cause-known, enter-allowed, fewer-told, one-longer}
use Rattle.ledger_replay.proofs.replay.Replay.enter.Goals as goal

pub returns-clause-judged : goal.returns-clause-judged
returns-clause-judged c past was =
    let few : enters past < 2 ^ 22 = omega (arith, was.sessions_are.count_is, c.count.ensures.value, c.if-count-ge-MOST_ENTERS.false) in
    let right : are_acceptable c.args.self.now.rules c.args.flags ≡ true = cc in
    record {
      legal = (
        was.legal,
        cause-known past (event.Enter c.args.worker c.args.role c.args.flags) c.args.self.now.rules was.rules_are
            ∙ enter-allowed c.args.self.now.rules past c.args.worker c.args.role c.args.flags (lt-ltb (enters past) (2 ^ 22) few) right,
      );
      rules_are = was.rules_are;
      events_are = one-longer c.args.self.now.events (event.Enter c.args.worker c.args.role c.args.flags) past was.events_are;
      sessions_are = c.enter.ensures.shown past (c.reserve.ensures.shown past was.sessions_are);
      channels_are = fewer-told (tables_of c.args.self.now) past (event.Enter c.args.worker c.args.role c.args.flags) was;
      jobs_are = was.jobs_are;
      coinbases = was.coinbases;
      grants_are = c.other_events_leave_grants.ensures c.args.self.now.grants past (event.Enter c.args.worker c.args.role c.args.flags) refl was.grants_are;
      booked = was.booked;
    }
