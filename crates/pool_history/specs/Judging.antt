-- How a share is judged (Stratum V2, "SubmitShares.Error"; the nine conditions and their order are
-- this project's own).
-- Computed on the worked session's share and on shares that each condition refuses (`Rows`,
-- `SessionS`).
use Rattle.std.specs.Prelude.{ℕ, ◌+◌, ◌-◌, ◌==◌, ◌&&◌, Bool, true, false, not, if◌then◌else◌, Option, None, Some, Result, Ok, Err, List, [], length, take, nat_lt, nat_le, bit_and}
use Rattle.coinbase.specs.Coin.{Terms, template_parts}
use Rattle.coinbase.specs.Custom.{CustomTerms, custom_parts}
use Rattle.coinbase.specs.Outputs.{outputs_of}
use Rattle.coinbase.specs.Parts.{Parts}
use Rattle.pool_base.specs.Results.{◌>>=◌}
use Rattle.coinbase.specs.declared.tx.TxOut.{TxOut}
use Rattle.pool_history.specs.declared.events.Event.{Event}
use Rattle.pool_history.specs.declared.events.JobState.{JobState}
use Rattle.pool_history.specs.declared.events.JobState.TheVariants as state
use Rattle.pool_history.specs.declared.events.Kind.{Kind}
use Rattle.pool_history.specs.declared.events.Kind.TheVariants as kind
use Rattle.pool_history.specs.declared.refusals.Failed.{Failed}
use Rattle.pool_history.specs.declared.refusals.Failed.TheVariants as failed
use Rattle.pool_history.specs.declared.settings.Rules.{Rules}
use Rattle.pool_history.specs.declared.shares.Submission.{Submission}
use Rattle.pool_history.specs.declared.templates.CustomData.{CustomData}
use Rattle.pool_history.specs.declared.templates.TemplateData.{TemplateData}
use Rattle.pool_history.specs.declared.templates.TipData.{TipData}
use Rattle.pool_history.specs.Channels.{OpenChannel, channel_in, channels_of}
use Rattle.pool_history.specs.Conditions.{found, provided}
use Rattle.pool_history.specs.Headers.{Briefing, header_by, rolled_length}
use Rattle.pool_history.specs.Jobs.{Source, FromTemplate, FromMiner, Job, Standing, is_open_to, jobs_of, live_job, job_numbered, state_of}

-- what is judged: the fields of a submission or of a credit
pub record Share : Type 0 where
  pub is_standard : Bool
  pub channel : ℕ
  pub job : ℕ
  pub nonce : ℕ
  pub ntime : ℕ
  pub version : ℕ
  pub extranonce : List ℕ

-- whether a kind is standard
abbrev pub is_standard : Kind → Bool
is_standard kind.Standard = true
is_standard kind.Extended = false
is_standard kind.V1 = false

-- a submission as it is judged
abbrev pub share_of : Submission → Share
share_of sub = record {
  is_standard = is_standard sub.kind;
  channel = sub.channel;
  job = sub.job;
  nonce = sub.nonce;
  ntime = sub.ntime;
  version = sub.version;
  extranonce = take sub.extranonce_len sub.extranonce;
}

-- what a template says of its coinbase
abbrev pub template_terms : TemplateData → Terms
template_terms template = record {
  tx_version = template.coinbase_tx_version;
  prefix = template.coinbase_prefix;
  sequence = template.coinbase_tx_input_sequence;
  reward = template.coinbase_tx_value_remaining;
  outputs_count = template.coinbase_tx_outputs_count;
  outputs = template.coinbase_tx_outputs;
  lock_time = template.coinbase_tx_locktime;
}

-- what a miner says of its own coinbase
abbrev pub custom_terms : CustomData → CustomTerms
custom_terms custom = record {
  tx_version = custom.coinbase_tx_version;
  prefix = custom.coinbase_prefix;
  sequence = custom.coinbase_tx_input_sequence;
  outputs = custom.coinbase_tx_outputs;
  lock_time = custom.coinbase_tx_locktime;
}

-- the outputs that were read
abbrev pub outputs_in : Result (List TxOut) ℕ → List TxOut
outputs_in (Ok outputs) = outputs
outputs_in (Err at) = []

-- the coinbase of a job, round its extranonce
abbrev pub job_parts : Source → List ℕ → Parts
job_parts (FromTemplate template) script = template_parts (template_terms template) script
job_parts (FromMiner custom) script =
    custom_parts (custom_terms custom) (length (outputs_in (outputs_of custom.coinbase_tx_outputs)))

-- a job's merkle path
abbrev pub path_of : Source → List (List ℕ)
path_of (FromTemplate template) = template.merkle_path
path_of (FromMiner custom) = custom.merkle_path

-- a job's version
abbrev pub version_of : Source → ℕ
version_of (FromTemplate template) = template.version
version_of (FromMiner custom) = custom.version

-- the least time that a live job allows: the tip's, or that of a miner's own job
abbrev pub min_ntime_of : Source → TipData → ℕ
min_ntime_of (FromTemplate template) tip = tip.header_timestamp
min_ntime_of (FromMiner custom) tip = custom.min_ntime

-- what a channel, a job and a tip give to a header
abbrev pub briefing_of : List ℕ → OpenChannel → Source → TipData → Briefing
briefing_of script channel source tip = record {
  prefix = (job_parts source script).prefix;
  suffix = (job_parts source script).suffix;
  path = path_of source;
  prev_hash = tip.prev_hash;
  nbits = tip.nbits;
  lead = channel.lead;
  kind = channel.kind;
}

-- what a share is judged with: its channel, its live job, the place since which that is live, and
-- the last tip
pub record Admitted : Type 0 where
  pub channel : OpenChannel
  pub job : Job
  pub live_at : ℕ
  pub tip : TipData

-- the header that a share stands for
abbrev pub rebuilt_header : List ℕ → Admitted → Share → List ℕ
rebuilt_header script admission share =
    header_by
    (briefing_of script admission.channel admission.job.source admission.tip)
    share.version share.ntime share.nonce share.extranonce

-- two truths are the same
abbrev pub agree : Bool → Bool → Bool
agree true b = b
agree false b = not b

-- a channel has an account
abbrev pub has_account : OpenChannel → Bool
has_account channel = nat_lt 0 (length channel.account)

-- first condition: the channel is the session's, has an account, and is standard where the message
-- is
abbrev pub serves : ℕ → Share → OpenChannel → Bool
serves session share channel =
    channel.session == session && has_account channel
    && agree (is_standard channel.kind) share.is_standard

-- neither unknown nor future
abbrev pub is_known_state : JobState → Bool
is_known_state state.Unknown = false
is_known_state state.Future = false
is_known_state state.Live = true
is_known_state state.Stale = true

-- a job is there, and is no other channel's own
abbrev pub is_mineable : ℕ → Option Job → Bool
is_mineable channel None = false
is_mineable channel (Some job) = is_open_to channel job.source

-- third condition: the job is neither unknown nor future, and is no other channel's own
abbrev pub is_known_job : Standing → Share → Bool
is_known_job standing share =
    is_known_state (state_of standing share.job)
    && is_mineable share.channel (job_numbered share.job standing.all)

-- the bits of a version that a miner may roll (BIP 320)
abbrev pub rolling_mask : Rules → ℕ
rolling_mask rules = if rules.version_rolling then 0x1fffe000 else 0

-- the other bits of a version
abbrev pub outside : ℕ → ℕ → ℕ
outside mask version = bit_and version (0xffffffff - mask)

-- fifth condition: the version is the job's but for the bits that may be rolled
abbrev pub is_version : Rules → Source → ℕ → Bool
is_version rules source version =
    outside (rolling_mask rules) version == outside (rolling_mask rules) (version_of source)

-- sixth condition: the time is within the window that the job allows
abbrev pub is_in_time : Rules → Source → TipData → ℕ → Bool
is_in_time rules source tip ntime =
    nat_le (min_ntime_of source tip) ntime
    && nat_le ntime (min_ntime_of source tip + rules.ntime_window)

-- the first six conditions; a job is live over a tip
abbrev pub admission : Rules → List Event → ℕ → Share → Result Admitted Failed
admission rules past session share = do
  there ← found failed.Channel (channel_in (channels_of past) share.channel)
  channel ← provided (serves session share there) failed.Channel there
  _ ← provided
      (length share.extranonce == rolled_length channel.kind channel.lead) failed.ExtranonceSize channel
  _ ← provided (is_known_job (jobs_of past) share) failed.Job channel
  job ← found failed.Stale (live_job (jobs_of past) share.job)
  live_at ← found failed.Stale job.live_at
  tip ← found failed.Stale (jobs_of past).tip
  _ ← provided (is_version rules job.source share.version) failed.Version channel
  _ ← provided (is_in_time rules job.source tip share.ntime) failed.Ntime channel
  Ok (record { channel = channel; job = job; live_at = live_at; tip = tip })
