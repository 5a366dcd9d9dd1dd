-- What credits do to the tables.
use Rattle.std.proofs.Common.{◌≡◌, ℕ, ◌+◌, None, Ok, Err, List, ◌∷◌, refl, ap, subst, sym, ◌∙◌}
use Rattle.pool_tables.specs.GrantTables.{OtherEventsLeaveGrants}
use Rattle.payouts.specs.Tallies.{Weighing}
use Rattle.pool_history.specs.declared.events.Event.{Event}
use Rattle.pool_history.specs.Crediting.{first_failed}
use Rattle.pool_history.specs.Legal.{cause_of, failed_as, may_mine, within}
use Rattle.pool_tables.specs.Tables.{OtherEventsLeaveSessions}
use Rattle.pool_tables.specs.Headers.{HeaderSet}
use Rattle.ledger_replay.specs.declared.error.ReplayError.{ReplayError}
use Rattle.ledger_replay.specs.declared.share_events.Credited.{Credited}
use Rattle.ledger_replay.specs.declared.share_events.Unbooked.{Unbooked}
use Rattle.ledger_replay.specs.declared.share_events.Unbooked.TheVariants as unbooked
use Rattle.ledger_replay.specs.Replays.{IsJudged, ReplayTables, WereReplayed}
use Rattle.ledger_replay.specs.Shares.{BooksShare, WereBookedBy, credit_event, share_after, share_error_of}
use Rattle.ledger_replay.proofs.Caused.{by_own, fewer-told, one-longer}

-- a credit's cause is its share's first condition that fails
credit-caused : (t : ReplayTables) (past : List Event) (session : ℕ) (share : Credited) → WereReplayed t past → None ≡ within may_mine past session None
    → cause_of past (credit_event session share) ≡ failed_as (first_failed t.rules past session (share_after past share))
credit-caused t past session share was may = by_own t past (credit_event session share) may_mine session _ was refl may

-- the tables, but for the tally and the headers, as they were
with-booked : (t : ReplayTables) (tally : Weighing) (set : HeaderSet) (past : List Event) → WereReplayed t past → WereBookedBy t.rules tally set past
    → WereReplayed (record t { tally = tally; headers = set }) past
with-booked t tally set past was booked = record {
  legal = was.legal;
  rules_are = was.rules_are;
  events_are = was.events_are;
  sessions_are = was.sessions_are;
  channels_are = was.channels_are;
  jobs_are = was.jobs_are;
  coinbases = was.coinbases;
  grants_are = was.grants_are;
  booked = booked;
}

pub credit-taken : (t : ReplayTables) (tally : Weighing) (set : HeaderSet) (past : List Event) (session : ℕ) (share : Credited)
    → OtherEventsLeaveSessions → OtherEventsLeaveGrants → WereReplayed t past → None ≡ within may_mine past session None
    → BooksShare t.rules tally set past session share (Ok tt)
    → WereReplayed (record t { tally = tally; headers = set; events = t.events + 1 }) (credit_event session share ∷ past)
credit-taken t tally set past session share other_sessions other_grants was may books = record {
  legal = (was.legal, credit-caused t past session share was may ∙ ap failed_as books.0);
  rules_are = was.rules_are;
  events_are = one-longer t.events one past was.events_are;
  sessions_are = other_sessions t.sessions past one refl was.sessions_are;
  channels_are = fewer-told t past one was;
  jobs_are = was.jobs_are;
  coinbases = was.coinbases;
  grants_are = other_grants t.grants past one refl was.grants_are;
  booked = books.1;
} where
  one : Event
  one = credit_event session share

pub credit-refused : (t : ReplayTables) (tally : Weighing) (set : HeaderSet) (past : List Event) (session : ℕ) (share : Credited) (refusal : Unbooked) (made : ReplayError)
    → WereReplayed t past → None ≡ within may_mine past session None
    → BooksShare t.rules tally set past session share (Err refusal) → made ≡ share_error_of refusal
    → IsJudged past (credit_event session share) (Err made) (record t { tally = tally; headers = set })
credit-refused t tally set past session share refusal made was may books made_is =
    subst (λ e. IsJudged past (credit_event session share) (Err e) (record t { tally = tally; headers = set })) (sym made_is) (by_refusal refusal books) where
      by_refusal : (r : Unbooked) → BooksShare t.rules tally set past session share (Err r)
          → IsJudged past (credit_event session share) (Err (share_error_of r)) (record t { tally = tally; headers = set })
      by_refusal (unbooked.Failed code) told =
          (credit-caused t past session share was may ∙ ap failed_as told.0, with-booked t tally set past was told.1)
      by_refusal unbooked.Memory told = with-booked t tally set past was told
