-- The first event of a book.
use Rattle.std.proofs.Common.{◌≡◌, ◌⊎◌, inl, inr, ℕ, Bool, None, Some, Option, List, [], ◌∷◌, length, refl, ap, sym, subst, ◌∙◌}
use Rattle.std.specs.Prelude.{slice_get, IsTrue}
use Rattle.pool_history.specs.declared.events.Event.{Event}
use Rattle.pool_history.specs.declared.events.Event.TheVariants as event
use Rattle.pool_history.specs.Sessions.{past_of, rules_of}
use Rattle.history_laws.specs.Legality.{Starts}
use Rattle.history_laws.proofs.Legalities.{legal_starts, some-none}
use Rattle.pool_history.specs.declared.settings.Rules.{Rules}
use Rattle.pool_history.specs.Accounts.{are_in_range}
use Rattle.pool_history.specs.Jobs.{jobs_told}
use Rattle.history_laws.specs.KeptJobs.{kept_jobs_of}
use Rattle.history_laws.specs.AskedPlaces.{is_asked_after}
use Rattle.ledger_records.specs.Keeping.{IsKept, StartsAreKept}
use Rattle.ledger_records.specs.WellFormed.{AreRules, IsWellFormed}
use Rattle.channels.specs.Tables.{IsTold}
use Rattle.pool_tables.specs.GrantTables.{OtherEventsLeaveGrants, ShowsGrants}
use Rattle.payouts.specs.Tallies.{Remembers}
use Rattle.payouts.specs.Totals.{HasSums}
use Rattle.pool_tables.specs.Tables.{OtherEventsLeaveSessions, ShowsSessions}
use Rattle.pool_tables.specs.Headers.{ShowsHeaders}
use Rattle.template_jobs.specs.Tables.{HasCoinbases, kept_jobs}
use Rattle.share_ledger.specs.Tables.{AreTables, LedgerTables, WereTold}

-- the events begin with it
pub begins : (old : LedgerTables) → AreTables old → Starts old.history.events
begins old is = by (legal_starts old.history.events is.kept.legal) where
  by : (old.history.events ≡ []) ⊎ Starts old.history.events → Starts old.history.events
  by (inl empty) =
      let are : None ≡ Some is.rules = sym (ap (λ (h : List Event). rules_of (past_of h)) empty) ∙ is.told.are_rules in
      cc
  by (inr s) = s

pub first-there : (old : LedgerTables) → AreTables old → None ≡ slice_get old.history.events 0 → ⊥
first-there old is none =
    let s : Starts old.history.events = begins old is in
    some-none (sym (none ∙ ap (λ (h : List Event). slice_get h 0) s.first))

-- tables that were told nothing are those of a pool that starts
pub started : (rules : Rules) (tables : LedgerTables) → StartsAreKept → OtherEventsLeaveSessions → OtherEventsLeaveGrants → IsTrue (are_in_range rules)
    → tables.history.events ≡ event.Start rules ∷ []
    → ((first : Event) → slice_get tables.history.events 0 ≡ Some first → IsWellFormed first)
    → ShowsSessions tables.sessions [] → ((asked : ℕ → Bool) → IsTold asked tables.channels []) → kept_jobs tables.jobs ≡ kept_jobs_of (jobs_told [])
    → ((script : List ℕ) → HasCoinbases script tables.jobs) → ShowsGrants tables.grants [] → tables.tally.window ≡ rules.window
    → Remembers tables.tally [] → ((basis_points : ℕ) → HasSums tables.tally basis_points []) → ShowsHeaders tables.headers [] → AreTables tables
started rules tables kept leave-sessions leave-grants ranged events fits sessions channels jobs coinbases grants window tally sums headers =
    let well : IsWellFormed (event.Start rules) = fits (event.Start rules) (ap (λ (h : List Event). slice_get h 0) events) in
    record {
      kept = subst IsKept (sym events) (kept rules well ranged);
      rules = rules;
      told = subst (λ (h : List Event). WereTold rules tables (past_of h)) (sym events)
          (record {
            are_rules = refl;
            sessions_are = leave-sessions tables.sessions [] (event.Start rules) refl sessions;
            channels_are = channels (is_asked_after (event.Start rules ∷ []));
            jobs_are = jobs;
            coinbases = coinbases rules.pool_script;
            grants_are = leave-grants tables.grants [] (event.Start rules) refl grants;
            window_is = window;
            tally_is = tally;
            sums_are = sums rules.fee;
            headers_are = headers;
          });
    }
