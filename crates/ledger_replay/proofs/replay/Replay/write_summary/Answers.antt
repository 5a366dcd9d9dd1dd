use Rattle.std.proofs.Common.{List, Ok, Err, ◌∙◌, subst, sym}
use Rattle.std.specs.Prelude.{OnOk, Result}
use Rattle.pool_history.specs.Crediting.{bookings_of}
use Rattle.payouts.specs.SummaryTotals.{HasSumsBy, IsToldHistory}
use Rattle.pool_history.specs.declared.events.Event.{Event}
use Rattle.ledger_replay.specs.Replays.{ReplayTables, WereReplayed, tables_of}
use Rattle.ledger_replay.proofs.replay.Replay.write_summary.Goals as goal

on-ok : {T E P Q : Type 0} (r : Result T E) → OnOk r P → (P → Q) → OnOk r Q
on-ok (Ok x) p f = f p
on-ok (Err e) p f = tt

is-told : (t : ReplayTables) (past : List Event) → WereReplayed t past → IsToldHistory t.tally past
is-told t past was = record {
  remembers = was.booked.tally_is;
  summed = subst (λ rules. HasSumsBy t.tally rules (bookings_of past)) (sym was.rules_are) (was.booked.window_is, was.booked.sums_are);
}

pub returns-clause-ok : goal.returns-clause-ok
returns-clause-ok c =
    on-ok c.write_summary.result c.write_summary.ensures.told
    (λ summed past was. summed past (is-told (tables_of c.args.self.now) past was) (c.count.ensures.value ∙ was.sessions_are.count_is) was.events_are)
