-- The tables of a book, and what they show of its history (this project's own).
use Rattle.std.specs.Prelude.{◌≡◌, Some, List}
use Rattle.pool_history.specs.declared.events.Event.{Event}
use Rattle.pool_history.specs.declared.settings.Rules.{Rules}
use Rattle.pool_history.specs.Channels.{channel_moves}
use Rattle.pool_history.specs.Crediting.{bookings_of}
use Rattle.pool_history.specs.Crediting as crediting
use Rattle.pool_history.specs.Jobs.{job_moves}
use Rattle.pool_history.specs.Sessions.{past_of, rules_of}
use Rattle.history_laws.specs.AskedPlaces.{is_asked_after}
use Rattle.ledger_records.specs.Keeping.{IsKept}
use Rattle.channels.specs.Tables.{ChannelTable, IsTold}
use Rattle.event_store.specs.Kept.{KeptHistory}
use Rattle.pool_tables.specs.GrantTables.{GrantTable, ShowsGrants}
use Rattle.payouts.specs.Tallies.{Remembers, Weighing}
use Rattle.payouts.specs.Totals.{HasSums}
use Rattle.pool_tables.specs.Tables.{SessionTable, ShowsSessions}
use Rattle.pool_tables.specs.Headers.{HeaderSet, ShowsHeaders}
use Rattle.template_jobs.specs.Tables.{HasCoinbases, JobTable}
use Rattle.template_jobs.specs.Told.{WasTold}

-- the events, and the tables beside them
pub record LedgerTables : Type 0 where
  pub history : KeptHistory
  pub sessions : SessionTable
  pub channels : ChannelTable
  pub jobs : JobTable
  pub grants : GrantTable
  pub tally : Weighing
  pub headers : HeaderSet

-- each table was told the events of a history, the last of which stands first
pub record WereTold (rules : Rules) (tables : LedgerTables) (past : List Event) : Type 0 where
  pub are_rules : rules_of past ≡ Some rules
  pub sessions_are : ShowsSessions tables.sessions past
  pub channels_are : IsTold (is_asked_after past) tables.channels (channel_moves past)
  pub jobs_are : WasTold tables.jobs (job_moves past)
  pub coinbases : HasCoinbases rules.pool_script tables.jobs
  pub grants_are : ShowsGrants tables.grants past
  pub window_is : tables.tally.window ≡ rules.window
  pub tally_is : Remembers tables.tally (bookings_of past)
  pub sums_are : HasSums tables.tally rules.fee (bookings_of past)
  pub headers_are : ShowsHeaders tables.headers (crediting.headers past)

-- the tables are those of the events, which are legal and have a ledger
pub record AreTables (tables : LedgerTables) : Type 0 where
  pub kept : IsKept tables.history.events
  pub rules : Rules
  pub told : WereTold rules tables (past_of tables.history.events)
