-- How a share is admitted, in two steps: by its channel, and by its job (this project's own).
use Rattle.std.specs.Prelude.{◌≡◌, ℕ, ◌==◌, ◌&&◌, Bool, Option, Result, Ok, Err, List, ◌++◌, length}
use Rattle.coinbase.specs.Parts.{Parts}
use Rattle.pool_base.specs.Results.{◌>>=◌}
use Rattle.pool_history.specs.declared.events.Event.{Event}
use Rattle.pool_history.specs.declared.refusals.Failed.{Failed}
use Rattle.pool_history.specs.declared.refusals.Failed.TheVariants as failed
use Rattle.pool_history.specs.declared.settings.Rules.{Rules}
use Rattle.pool_history.specs.declared.templates.TipData.{TipData}
use Rattle.pool_history.specs.Channels.{OpenChannel, channels_of, channel_in}
use Rattle.pool_history.specs.Conditions.{found, provided}
use Rattle.pool_history.specs.Crediting.{admitted_class}
use Rattle.pool_history.specs.Headers.{rolled_length}
use Rattle.pool_history.specs.Jobs.{Job, Standing, jobs_of, live_job, job_numbered}
use Rattle.pool_history.specs.Judging.{Admitted, Share, is_in_time, is_known_job, is_known_state, is_version, job_parts, serves}
use Rattle.pool_history.specs.Sessions.{script_of}
use Rattle.history_laws.specs.AskedPlaces.{is_asked_after}
use Rattle.history_laws.specs.KeptJobs.{KeptJobs, is_mineable_by, state_by}
use Rattle.history_laws.specs.KeptJobs as keeping
use Rattle.channels.specs.declared.channel.Channel.{Channel}
use Rattle.channels.specs.Tables.{AllAnswerFor, ChannelTable, kept_channel, kept_of}
use Rattle.template_jobs.specs.HeldJobs.{HasCoinbase, HeldJob, as_job}
use Rattle.template_jobs.specs.Tables.{HasCoinbases, JobTable, kept_jobs}

-- two tables show the open channels, as far as they may be asked for, and the jobs of a history,
-- with the pool's script in each coinbase
pub record ShowsShares (channels : ChannelTable) (jobs : JobTable) (past : List Event)
    : Type 0 where
  pub channels_are : AllAnswerFor (is_asked_after past) channels.open_channels (channels_of past)
  pub jobs_are : kept_jobs jobs ≡ keeping.kept_jobs_of (jobs_of past)
  pub coinbases : HasCoinbases (script_of past) jobs

-- the channel that a share is sent on, by the first two conditions
abbrev pub channel_for : ℕ → Share → Option OpenChannel → Result OpenChannel Failed
channel_for session share there = do
  channel ← found failed.Channel there
  _ ← provided (serves session share channel) failed.Channel channel
  provided
      (length share.extranonce == rolled_length channel.kind channel.lead) failed.ExtranonceSize channel

-- the live job that a share is mined on, since when it is, and the tip that it builds upon
pub record Mined : Type 0 where
  pub job : Job
  pub live_at : ℕ
  pub tip : TipData

-- by the next two conditions
abbrev pub mined_for : Standing → Share → Result Mined Failed
mined_for standing share = do
  _ ← provided (is_known_job standing share) failed.Job share
  job ← found failed.Stale (live_job standing share.job)
  live_at ← found failed.Stale job.live_at
  tip ← found failed.Stale standing.tip
  Ok (record { job = job; live_at = live_at; tip = tip })

-- the same by what is kept of the jobs
abbrev pub mined_by : KeptJobs → Share → Result Mined Failed
mined_by kept share = do
  _ ← provided
      (is_known_state (state_by kept share.job)
      && is_mineable_by kept share.channel share.job) failed.Job share
  job ← found failed.Stale (job_numbered share.job (kept.live ++ kept.custom))
  live_at ← found failed.Stale job.live_at
  tip ← found failed.Stale kept.tip
  Ok (record { job = job; live_at = live_at; tip = tip })

-- and by the two on what the miner rolls
abbrev pub rolled_for : Rules → Share → Mined → Result Mined Failed
rolled_for rules share mined = do
  _ ← provided (is_version rules mined.job.source share.version) failed.Version mined
  provided (is_in_time rules mined.job.source mined.tip share.ntime) failed.Ntime mined

-- what was found of a channel, its live job and a tip
abbrev pub admitted_on : OpenChannel → Mined → Admitted
admitted_on channel mined =
    record { channel = channel; job = mined.job; live_at = mined.live_at; tip = mined.tip }

-- a job that is held, as it is mined on
abbrev pub mined_on : HeldJob → ℕ → TipData → Mined
mined_on job live_at tip = record { job = as_job job; live_at = live_at; tip = tip }

-- what was found of a share is what it is judged with
pub record IsAdmittedAs (script : List ℕ) (channel : Channel) (job : HeldJob) (live_at : ℕ)
    (tip : TipData) (class : ℕ) (with : Admitted) : Type 0 where
  pub channel_is : kept_of channel ≡ kept_channel with.channel
  pub job_is : as_job job ≡ with.job
  pub coinbase_is : job.coinbase ≡ job_parts with.job.source script
  pub live_at_is : live_at ≡ with.live_at
  pub tip_is : tip ≡ with.tip
  pub class_is : class ≡ admitted_class with
