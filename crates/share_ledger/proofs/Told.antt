-- Tables that were told a history are told its next event.
use Rattle.std.proofs.Common.{◌≡◌, ℕ, Bool, false, Option, None, Some, List, [], ◌∷◌, ◌++◌, length, refl, ap, sym, subst, ◌∙◌}
use Rattle.pool_history.specs.declared.events.Event.{Event}
use Rattle.pool_history.specs.declared.events.Event.TheVariants as event
use Rattle.pool_history.specs.declared.events.Role.{Role}
use Rattle.pool_history.specs.declared.settings.Rules.{Rules}
use Rattle.pool_history.specs.declared.templates.CustomData.{CustomData}
use Rattle.pool_history.specs.declared.templates.TemplateData.{TemplateData}
use Rattle.pool_history.specs.declared.templates.TipData.{TipData}
use Rattle.pool_history.specs.Channels.{Closes, Leaves, channel_moves}
use Rattle.pool_history.specs.Crediting.{Booked, bookings_of, headers}
use Rattle.pool_history.specs.Jobs.{Brought, Came, Tipped, job_moves, jobs_told}
use Rattle.pool_history.specs.Sessions.{past_of, rules_of, script_in, script_of}
use Rattle.history_laws.proofs.AskedPlaces.{asked-before}
use Rattle.history_laws.proofs.Legalities.{past-one}
use Rattle.history_laws.specs.AskedPlaces.{is_asked_after}
use Rattle.ledger_records.specs.Keeping.{KeepsOn}
use Rattle.channels.proofs.Cuts.{told-weaker}
use Rattle.channels.specs.Tables.{ChannelTable, IsTold}
use Rattle.event_store.specs.Kept.{KeptHistory}
use Rattle.pool_tables.specs.GrantTables.{GrantTable, OtherEventsLeaveGrants, ShowsGrants}
use Rattle.payouts.specs.Tallies.{Remembers, Weighing}
use Rattle.payouts.specs.Totals.{HasSums}
use Rattle.pool_tables.specs.Tables.{OtherEventsLeaveSessions, SessionTable, ShowsSessions}
use Rattle.pool_tables.specs.Headers.{HeaderSet, ShowsHeaders}
use Rattle.template_jobs.specs.Tables.{HasCoinbases, JobTable, TakesMove}
use Rattle.template_jobs.specs.Told.{MovesAreTold, WasTold}
use Rattle.share_ledger.specs.Tables.{AreTables, LedgerTables, WereTold}
use Rattle.share_ledger.specs.Planning.{IsOfChannels}

-- with one event more the tables are still those of the events
pub grown : (old new : LedgerTables) (next : Event) → (is : AreTables old) → new.history.events ≡ old.history.events ++ next ∷ []
    → KeepsOn old.history.events (next ∷ []) → WereTold is.rules new (next ∷ past_of old.history.events) → AreTables new
grown old new next is events keeps told = record {
  kept = subst (λ (h : List Event). Rattle.ledger_records.specs.Keeping.IsKept h) (sym events) keeps.kept;
  rules = is.rules;
  told = subst (λ (p : List Event). WereTold is.rules new p) (sym (ap past_of events ∙ past-one old.history.events next)) told;
}

module _ (rules : Rules) (tables : LedgerTables) (past : List Event) (told : WereTold rules tables past) (history : KeptHistory) where
  -- of an event more, at fewer places classes are asked for
  pub fewer : (next : Event) → IsTold (is_asked_after (next ∷ past)) tables.channels (channel_moves past)
  fewer next = told-weaker (is_asked_after past) (is_asked_after (next ∷ past)) tables.channels (channel_moves past) (asked-before next past) told.channels_are

  pub told-enter : OtherEventsLeaveGrants → (sessions : SessionTable) (worker : ℕ) (role : Role) (flags : ℕ)
      → ShowsSessions sessions (event.Enter worker role flags ∷ past)
      → WereTold rules (record tables { history = history; sessions = sessions }) (event.Enter worker role flags ∷ past)
  told-enter leave-grants sessions worker role flags shows = record {
    are_rules = told.are_rules;
    sessions_are = shows;
    channels_are = fewer (event.Enter worker role flags);
    jobs_are = told.jobs_are;
    coinbases = told.coinbases;
    grants_are = leave-grants tables.grants past (event.Enter worker role flags) refl told.grants_are;
    window_is = told.window_is;
    tally_is = told.tally_is;
    sums_are = told.sums_are;
    headers_are = told.headers_are;
  }

  pub told-leave : OtherEventsLeaveGrants → (sessions : SessionTable) (channels : ChannelTable) (session : ℕ)
      → ShowsSessions sessions (event.Leave session ∷ past)
      → IsTold (is_asked_after (event.Leave session ∷ past)) channels (Leaves session ∷ channel_moves past)
      → WereTold rules (record tables { history = history; sessions = sessions; channels = channels }) (event.Leave session ∷ past)
  told-leave leave-grants sessions channels session shows moved = record {
    are_rules = told.are_rules;
    sessions_are = shows;
    channels_are = moved;
    jobs_are = told.jobs_are;
    coinbases = told.coinbases;
    grants_are = leave-grants tables.grants past (event.Leave session) refl told.grants_are;
    window_is = told.window_is;
    tally_is = told.tally_is;
    sums_are = told.sums_are;
    headers_are = told.headers_are;
  }

  pub told-template : OtherEventsLeaveSessions → OtherEventsLeaveGrants → MovesAreTold → (jobs : JobTable) (session : ℕ) (template : TemplateData)
      → TakesMove rules.pool_script (Came (length past) session template) tables.jobs jobs
      → WereTold rules (record tables { history = history; jobs = jobs }) (event.Template session template ∷ past)
  told-template leave-sessions leave-grants moves-told jobs session template takes = record {
    are_rules = told.are_rules;
    sessions_are = leave-sessions tables.sessions past (event.Template session template) refl told.sessions_are;
    channels_are = fewer (event.Template session template);
    jobs_are = moves-told rules.pool_script (Came (length past) session template) (job_moves past) tables.jobs jobs takes told.jobs_are;
    coinbases = takes.coinbases told.coinbases;
    grants_are = leave-grants tables.grants past (event.Template session template) refl told.grants_are;
    window_is = told.window_is;
    tally_is = told.tally_is;
    sums_are = told.sums_are;
    headers_are = told.headers_are;
  }

  pub told-tip : OtherEventsLeaveSessions → OtherEventsLeaveGrants → MovesAreTold → (jobs : JobTable) (session : ℕ) (tip : TipData)
      → TakesMove rules.pool_script (Tipped (length past) tip) tables.jobs jobs
      → WereTold rules (record tables { history = history; jobs = jobs }) (event.Tip session tip ∷ past)
  told-tip leave-sessions leave-grants moves-told jobs session tip takes = record {
    are_rules = told.are_rules;
    sessions_are = leave-sessions tables.sessions past (event.Tip session tip) refl told.sessions_are;
    channels_are = fewer (event.Tip session tip);
    jobs_are = moves-told rules.pool_script (Tipped (length past) tip) (job_moves past) tables.jobs jobs takes told.jobs_are;
    coinbases = takes.coinbases told.coinbases;
    grants_are = leave-grants tables.grants past (event.Tip session tip) refl told.grants_are;
    window_is = told.window_is;
    tally_is = told.tally_is;
    sums_are = told.sums_are;
    headers_are = told.headers_are;
  }

  pub told-custom : OtherEventsLeaveSessions → MovesAreTold → (jobs : JobTable) (grants : GrantTable) (session : ℕ) (custom : CustomData)
      → TakesMove rules.pool_script (Brought (length past) custom) tables.jobs jobs → ShowsGrants grants (event.Custom session custom ∷ past)
      → WereTold rules (record tables { history = history; jobs = jobs; grants = grants }) (event.Custom session custom ∷ past)
  told-custom leave-sessions moves-told jobs grants session custom takes shows = record {
    are_rules = told.are_rules;
    sessions_are = leave-sessions tables.sessions past (event.Custom session custom) refl told.sessions_are;
    channels_are = fewer (event.Custom session custom);
    jobs_are = moves-told rules.pool_script (Brought (length past) custom) (job_moves past) tables.jobs jobs takes told.jobs_are;
    coinbases = takes.coinbases told.coinbases;
    grants_are = shows;
    window_is = told.window_is;
    tally_is = told.tally_is;
    sums_are = told.sums_are;
    headers_are = told.headers_are;
  }

  pub told-grant : OtherEventsLeaveSessions → (grants : GrantTable) (session : ℕ) (account : List ℕ) (fixed : Bool) (path : List (List ℕ))
      → ShowsGrants grants (event.Grant session account fixed path ∷ past)
      → WereTold rules (record tables { history = history; grants = grants }) (event.Grant session account fixed path ∷ past)
  told-grant leave-sessions grants session account fixed path shows = record {
    are_rules = told.are_rules;
    sessions_are = leave-sessions tables.sessions past (event.Grant session account fixed path) refl told.sessions_are;
    channels_are = fewer (event.Grant session account fixed path);
    jobs_are = told.jobs_are;
    coinbases = told.coinbases;
    grants_are = shows;
    window_is = told.window_is;
    tally_is = told.tally_is;
    sums_are = told.sums_are;
    headers_are = told.headers_are;
  }

  pub told-credit : OtherEventsLeaveSessions → OtherEventsLeaveGrants → (tally : Weighing) (set : HeaderSet)
      (session channel job nonce ntime version : ℕ) (extranonce : List ℕ) (booked : Booked) (header : List ℕ)
      → bookings_of (event.Credit session channel job nonce ntime version extranonce ∷ past) ≡ booked ∷ bookings_of past
      → headers (event.Credit session channel job nonce ntime version extranonce ∷ past) ≡ header ∷ headers past
      → tally.window ≡ tables.tally.window → Remembers tally (booked ∷ bookings_of past) → HasSums tally rules.fee (booked ∷ bookings_of past)
      → ShowsHeaders set (header ∷ headers past)
      → WereTold rules (record tables { history = history; tally = tally; headers = set }) (event.Credit session channel job nonce ntime version extranonce ∷ past)
  told-credit leave-sessions leave-grants tally set session channel job nonce ntime version extranonce booked header books adds window remembers sums shows = record {
    are_rules = told.are_rules;
    sessions_are = leave-sessions tables.sessions past (event.Credit session channel job nonce ntime version extranonce) refl told.sessions_are;
    channels_are = fewer (event.Credit session channel job nonce ntime version extranonce);
    jobs_are = told.jobs_are;
    coinbases = told.coinbases;
    grants_are = leave-grants tables.grants past (event.Credit session channel job nonce ntime version extranonce) refl told.grants_are;
    window_is = window ∙ told.window_is;
    tally_is = subst (Remembers tally) (sym books) remembers;
    sums_are = subst (HasSums tally rules.fee) (sym books) sums;
    headers_are = subst (ShowsHeaders set) (sym adds) shows;
  }

  pub told-channels : OtherEventsLeaveSessions → OtherEventsLeaveGrants → (channels : ChannelTable) (next : Event) → IsOfChannels next
      → IsTold (is_asked_after (next ∷ past)) channels (channel_moves (next ∷ past))
      → WereTold rules (record tables { history = history; channels = channels }) (next ∷ past)
  told-channels leave-sessions leave-grants channels (event.Open session kind account class lead) only moved = record {
    are_rules = told.are_rules;
    sessions_are = leave-sessions tables.sessions past (event.Open session kind account class lead) refl told.sessions_are;
    channels_are = moved;
    jobs_are = told.jobs_are;
    coinbases = told.coinbases;
    grants_are = leave-grants tables.grants past (event.Open session kind account class lead) refl told.grants_are;
    window_is = told.window_is;
    tally_is = told.tally_is;
    sums_are = told.sums_are;
    headers_are = told.headers_are;
  }
  told-channels leave-sessions leave-grants channels (event.Name session channel account) only moved = record {
    are_rules = told.are_rules;
    sessions_are = leave-sessions tables.sessions past (event.Name session channel account) refl told.sessions_are;
    channels_are = moved;
    jobs_are = told.jobs_are;
    coinbases = told.coinbases;
    grants_are = leave-grants tables.grants past (event.Name session channel account) refl told.grants_are;
    window_is = told.window_is;
    tally_is = told.tally_is;
    sums_are = told.sums_are;
    headers_are = told.headers_are;
  }
  told-channels leave-sessions leave-grants channels (event.Class session channel class) only moved = record {
    are_rules = told.are_rules;
    sessions_are = leave-sessions tables.sessions past (event.Class session channel class) refl told.sessions_are;
    channels_are = moved;
    jobs_are = told.jobs_are;
    coinbases = told.coinbases;
    grants_are = leave-grants tables.grants past (event.Class session channel class) refl told.grants_are;
    window_is = told.window_is;
    tally_is = told.tally_is;
    sums_are = told.sums_are;
    headers_are = told.headers_are;
  }
  told-channels leave-sessions leave-grants channels (event.Close session channel) only moved = record {
    are_rules = told.are_rules;
    sessions_are = leave-sessions tables.sessions past (event.Close session channel) refl told.sessions_are;
    channels_are = moved;
    jobs_are = told.jobs_are;
    coinbases = told.coinbases;
    grants_are = leave-grants tables.grants past (event.Close session channel) refl told.grants_are;
    window_is = told.window_is;
    tally_is = told.tally_is;
    sums_are = told.sums_are;
    headers_are = told.headers_are;
  }
  told-channels leave-sessions leave-grants channels (event.Start r) only moved = absurd only
  told-channels leave-sessions leave-grants channels (event.Enter worker role flags) only moved = absurd only
  told-channels leave-sessions leave-grants channels (event.Template session template) only moved = absurd only
  told-channels leave-sessions leave-grants channels (event.Tip session tip) only moved = absurd only
  told-channels leave-sessions leave-grants channels (event.Leave session) only moved = absurd only
  told-channels leave-sessions leave-grants channels (event.Credit session channel job nonce ntime version extranonce) only moved = absurd only
  told-channels leave-sessions leave-grants channels (event.Grant session account fixed path) only moved = absurd only
  told-channels leave-sessions leave-grants channels (event.Custom session custom) only moved = absurd only
