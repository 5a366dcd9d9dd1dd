use Rattle.std.proofs.Common.{cond, None, Some, [], ◌∷◌, arith, refl, ap, subst, sym, ◌∙◌}
use Rattle.std.specs.Prelude.{IsTrue}
use Rattle.pool_history.specs.declared.causes.Cause.TheVariants as cause
use Rattle.pool_history.specs.declared.events.Event.TheVariants as event
use Rattle.pool_history.specs.Accounts.{is_window}
use Rattle.pool_tables.proofs.Ranges.{window_and_limit}
use Rattle.history_laws.specs.AskedPlaces.{is_asked_after}
use Rattle.ledger_replay.proofs.replay.Replay.with_rules.Goals as goal

pub new-requires-2 : goal.new-requires-2
new-requires-2 c =
    record { window = subst (λ w. IsTrue (is_window w)) (sym c.rule_of-rule.ensures) (window_and_limit c.args.rules c.requires).0 }

pub returns-clause-told : goal.returns-clause-told
returns-clause-told c = record {
  legal = (tt, ap (λ b. cond b None (Some cause.BadStart)) c.requires);
  rules_are = refl;
  events_are = omega arith;
  sessions_are = c.other_events_leave_sessions.ensures c.new-3.result [] (event.Start c.args.rules) refl c.new-3.ensures;
  channels_are = c.in_ok-channels.ensures (is_asked_after (event.Start c.args.rules ∷ []));
  jobs_are = c.new-4.ensures.told;
  coinbases = c.new-4.ensures.coinbases c.args.rules.pool_script;
  grants_are = c.other_events_leave_grants.ensures c.new-5.result [] (event.Start c.args.rules) refl c.new-5.ensures;
  booked = record {
    window_is = c.in_ok-tally.ensures.window ∙ c.rule_of-rule.ensures;
    tally_is = c.in_ok-tally.ensures.told;
    sums_are = c.in_ok-tally.ensures.summed c.args.rules.fee;
    headers_are = c.new-6.ensures;
  };
}
