-- What a replay was told, and what it answers (this project's own).
use Rattle.std.specs.Prelude.{◌≡◌, ℕ, true, None, Some, Result, Ok, Err, List, [], ◌∷◌, length, map}
use Rattle.history_laws.specs.AskedPlaces.{is_asked_after}
use Rattle.channels.specs.Cuts.{with_cut}
use Rattle.channels.specs.Tables.{ChannelTable, IsTold}
use Rattle.pool_tables.specs.GrantTables.{GrantTable, ShowsGrants}
use Rattle.coinbase.specs.declared.error.OutputsError.{OutputsError}
use Rattle.coinbase.specs.declared.error.OutputsError.TheVariants as outputs
use Rattle.pool_history.specs.declared.causes.Cause.{Cause}
use Rattle.pool_history.specs.declared.causes.Cause.TheVariants as cause
use Rattle.pool_history.specs.declared.events.Event.{Event}
use Rattle.pool_history.specs.declared.events.Kind.{Kind}
use Rattle.pool_history.specs.declared.refusals.OpenError.{OpenError}
use Rattle.pool_history.specs.declared.refusals.OpenError.TheVariants as open_error
use Rattle.pool_history.specs.declared.refusals.JobError.{JobError}
use Rattle.pool_history.specs.declared.refusals.JobError.TheVariants as job
use Rattle.pool_history.specs.declared.settings.Rules.{Rules}
use Rattle.pool_history.specs.Channels.{channel_moves}
use Rattle.pool_history.specs.Jobs.{job_moves}
use Rattle.pool_history.specs.Legal.{LegalPast, cause_of, is_class, is_opening_account, may_mine, within}
use Rattle.pool_history.specs.Sessions.{rules_of}
use Rattle.payouts.specs.Tallies.{Weighing}
use Rattle.pool_tables.specs.Tables.{SessionTable, ShowsSessions}
use Rattle.pool_tables.specs.Headers.{HeaderSet}
use Rattle.template_jobs.specs.Tables.{HasCoinbases, JobTable}
use Rattle.template_jobs.specs.Told.{WasTold}
use Rattle.ledger_replay.specs.declared.error.ReplayError.{ReplayError}
use Rattle.ledger_replay.specs.declared.error.ReplayError.TheVariants as error
use Rattle.ledger_replay.specs.declared.replay.Replay.{Replay}
use Rattle.ledger_replay.specs.declared.replay.ReplayedTables.{ReplayedTables}
use Rattle.ledger_replay.specs.Shares.{WereBookedBy}

-- the rules, how many events were told, and the tables that were told them
pub record ReplayTables : Type 0 where
  pub rules : Rules
  pub events : ℕ
  pub sessions : SessionTable
  pub channels : ChannelTable
  pub jobs : JobTable
  pub grants : GrantTable
  pub tally : Weighing
  pub headers : HeaderSet

-- those of a replay
abbrev pub tables_of : Replay → ReplayTables
tables_of replay =
    record {
      rules = replay.rules;
      events = replay.events;
      sessions = replay.sessions;
      channels = replay.channels;
      jobs = replay.jobs;
      grants = replay.grants;
      tally = replay.tally;
      headers = replay.headers;
    }

-- those that were taken out of a replay of so many events
abbrev pub tables_with : ℕ → ReplayedTables → ReplayTables
tables_with events replayed =
    record {
      rules = replayed.rules;
      events = events;
      sessions = replayed.sessions;
      channels = replayed.channels;
      jobs = replayed.jobs;
      grants = replayed.grants;
      tally = replayed.tally;
      headers = replayed.headers;
    }

-- tables were told these events, the last of which stands first, and they are legal
pub record WereReplayed (tables : ReplayTables) (past : List Event) : Type 0 where
  pub legal : LegalPast past
  pub rules_are : rules_of past ≡ Some tables.rules
  pub events_are : tables.events ≡ length past
  pub sessions_are : ShowsSessions tables.sessions past
  pub channels_are : IsTold (is_asked_after past) tables.channels (channel_moves past)
  pub jobs_are : WasTold tables.jobs (job_moves past)
  pub coinbases : HasCoinbases tables.rules.pool_script tables.jobs
  pub grants_are : ShowsGrants tables.grants past
  pub booked : WereBookedBy tables.rules tables.tally tables.headers past

-- a replay was told legal events
abbrev pub WasReplayed : Replay → List Event → Type 0
WasReplayed replay past = WereReplayed (tables_of replay) past

-- an event has this cause after others
abbrev pub HasCause : List Event → Event → Cause → Type 0
HasCause past event cause = cause_of past event ≡ Some cause

-- one more event was told; or it has this cause, or memory ran out, and no more was told
abbrev pub IsJudged : List Event → Event → Result Unit ReplayError → ReplayTables → Type 0
IsJudged past event (Ok done) tables = WereReplayed tables (event ∷ past)
IsJudged past event (Err (error.Illegal cause)) tables =
    HasCause past event cause × WereReplayed tables past
IsJudged past event (Err error.Memory) tables = WereReplayed tables past

-- so it is whatever the replay was told before
abbrev pub Judges : Replay → Event → Result Unit ReplayError → Replay → Type 0
Judges old event result new =
    (past : List Event) → WasReplayed old past → IsJudged past event result (tables_of new)

-- a class that is set forgets those that no one asks for within the bounds of the live jobs, and no
-- others
abbrev pub ForgetsClasses : Replay → ℕ → ℕ → Replay → Type 0
ForgetsClasses old channel class new =
    new.channels.open_channels
    ≡ map (with_cut old.events channel class old.jobs.span) old.channels.open_channels

-- the replay of the first event, or its cause
abbrev pub Begins : Event → Result Replay ReplayError → Type 0
Begins event (Ok replay) = WasReplayed replay (event ∷ [])
Begins event (Err (error.Illegal cause)) = HasCause [] event cause
Begins event (Err error.Memory) = Unit {0}

-- how many events were told
abbrev pub event_count : Replay → ℕ
event_count replay = replay.events

-- what a template's refusal is called
abbrev pub template_error_of : JobError → ReplayError
template_error_of job.Memory = error.Memory
template_error_of (job.TooMany count) = error.Illegal cause.BadTemplate
template_error_of (job.TemplateKnown id) = error.Illegal cause.BadTemplate
template_error_of job.NoTip = error.Illegal cause.BadTemplate
template_error_of (job.UnknownTemplate id) = error.Illegal cause.BadTemplate
template_error_of (job.Coinbase refusal) = error.Illegal cause.BadTemplate

-- what a refusal of the coinbase of a miner's own job is called
abbrev pub coinbase_error_of : OutputsError → ReplayError
coinbase_error_of outputs.Memory = error.Memory
coinbase_error_of (outputs.ScriptTooLong len) = error.Illegal cause.BadCoinbase
coinbase_error_of (outputs.TooLong len) = error.Illegal cause.BadCoinbase
coinbase_error_of (outputs.BadOutputs at) = error.Illegal cause.BadCoinbase
coinbase_error_of outputs.NoOutputs = error.Illegal cause.BadCoinbase
coinbase_error_of (outputs.ForeignOutput index) = error.Illegal cause.BadCoinbase
coinbase_error_of (outputs.RewardTooLarge sum) = error.Illegal cause.BadCoinbase

-- what an opening's refusal is called
abbrev pub opening_error_of : OpenError → ReplayError
opening_error_of (open_error.TooManyChannels own all) = error.Illegal cause.TooManyChannels
opening_error_of open_error.Memory = error.Memory
opening_error_of open_error.UnknownUser = error.Illegal cause.BadLead
opening_error_of (open_error.TargetOutOfRange class) = error.Illegal cause.BadLead
opening_error_of (open_error.SizeTooLarge size) = error.Illegal cause.BadLead
opening_error_of open_error.NoSpace = error.Illegal cause.BadLead

-- a session may open a channel with this account and class
pub record IsOpened (replay : Replay) (session : ℕ) (kind : Kind) (account : List ℕ) (class : ℕ)
    : Type 0 where
  pub may : (past : List Event) → WasReplayed replay past → None ≡ within may_mine past session None
  pub account_said : is_opening_account replay.rules kind account ≡ true
  pub in_range : is_class replay.rules class ≡ true
