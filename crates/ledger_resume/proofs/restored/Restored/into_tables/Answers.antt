use Rattle.std.proofs.Common.{subst, sym}
use Rattle.pool_history.specs.Sessions.{past_of}
use Rattle.ledger_replay.specs.Replays.{WereReplayed, event_count, tables_with}
use Rattle.ledger_resume.proofs.restored.Restored.into_tables.Goals as goal

pub invariant_of-result : goal.invariant_of-result
invariant_of-result c =
    let events = c.args.self.history.events in
    let told : WereReplayed (tables_with (event_count c.args.self.replay) c.into_tables-sessions.result) (past_of events) =
    subst (λ tables. WereReplayed tables (past_of events)) (sym c.into_tables-sessions.ensures) c.requires.replayed in
    record {
      kept = record { legal = c.requires.replayed.legal; has_ledger = c.requires.have_records };
      rules = c.into_tables-sessions.result.rules;
      told = record {
        are_rules = told.rules_are;
        sessions_are = told.sessions_are;
        channels_are = told.channels_are;
        jobs_are = told.jobs_are;
        coinbases = told.coinbases;
        grants_are = told.grants_are;
        window_is = told.booked.window_is;
        tally_is = told.booked.tally_is;
        sums_are = told.booked.sums_are;
        headers_are = told.booked.headers_are;
      };
    }
