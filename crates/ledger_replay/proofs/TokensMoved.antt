-- What tokens do to the tables.
use Rattle.std.proofs.Common.{◌≡◌, ℕ, ◌+◌, Bool, Option, None, Some, List, ◌∷◌, length, refl, ap, sym, ◌∙◌}
use Rattle.pool_tables.specs.GrantTables.{GrantTable, ShowsGrants, grant_refusal_after, granted_count}
use Rattle.pool_history.specs.declared.causes.Cause.{Cause}
use Rattle.pool_history.specs.declared.events.Event.{Event}
use Rattle.pool_history.specs.declared.events.Event.TheVariants as event
use Rattle.pool_history.specs.declared.refusals.GrantError.{GrantError}
use Rattle.pool_history.specs.Legal.{cause_of, grant_cause, may_select_work, within}
use Rattle.pool_tables.specs.Tables.{OtherEventsLeaveSessions}
use Rattle.ledger_replay.specs.Replays.{HasCause, ReplayTables, WereReplayed}
use Rattle.ledger_replay.proofs.Caused.{by_own, fewer-told, one-longer}

-- a grant's cause is that of its refusal
grant-caused : (t : ReplayTables) (past : List Event) (session count : ℕ) (account : List ℕ) (fixed : Bool) (path : List (List ℕ)) (refusal : Option GrantError)
    → WereReplayed t past → None ≡ within may_select_work past session None → count ≡ granted_count t.grants
    → refusal ≡ grant_refusal_after t.rules count account (length path)
    → cause_of past (event.Grant session account fixed path) ≡ grant_cause refusal
grant-caused t past session count account fixed path refusal was may counted is =
    by_own t past (event.Grant session account fixed path) may_select_work session _ was refl may
    ∙ ap grant_cause (ap (λ n. grant_refusal_after t.rules n account (length path)) (sym was.grants_are.count_is ∙ sym counted) ∙ sym is)

pub grant-refused : (t : ReplayTables) (past : List Event) (session count : ℕ) (account : List ℕ) (fixed : Bool) (path : List (List ℕ)) (refusal : GrantError) (code : Cause)
    → WereReplayed t past → None ≡ within may_select_work past session None → count ≡ granted_count t.grants
    → Some refusal ≡ grant_refusal_after t.rules count account (length path) → Some code ≡ grant_cause (Some refusal)
    → HasCause past (event.Grant session account fixed path) code × WereReplayed t past
grant-refused t past session count account fixed path refusal code was may counted is code_is =
    (grant-caused t past session count account fixed path (Some refusal) was may counted is ∙ sym code_is, was)

pub grant-taken : (t : ReplayTables) (new : GrantTable) (past : List Event) (session count : ℕ) (account : List ℕ) (fixed : Bool) (path : List (List ℕ))
    → OtherEventsLeaveSessions → WereReplayed t past → None ≡ within may_select_work past session None → count ≡ granted_count t.grants
    → None ≡ grant_refusal_after t.rules count account (length path) → ShowsGrants new (event.Grant session account fixed path ∷ past)
    → WereReplayed (record t { grants = new; events = t.events + 1 }) (event.Grant session account fixed path ∷ past)
grant-taken t new past session count account fixed path other_sessions was may counted is shown = record {
  legal = (was.legal, grant-caused t past session count account fixed path None was may counted is);
  rules_are = was.rules_are;
  events_are = one-longer t.events (event.Grant session account fixed path) past was.events_are;
  sessions_are = other_sessions t.sessions past (event.Grant session account fixed path) refl was.sessions_are;
  channels_are = fewer-told t past (event.Grant session account fixed path) was;
  jobs_are = was.jobs_are;
  coinbases = was.coinbases;
  grants_are = shown;
  booked = was.booked;
}
