-- The nine conditions of a share, each by itself (Stratum V2, "SubmitShares.Error"; their order is
-- this project's own). Channels, jobs, states, tips and credits are those by places over the history
-- from its front. A code is told exactly where its condition fails and all before it hold. What the
-- recursion tells is computed in `Rows`.
use Rattle.std.specs.Prelude.{IsTrue, ◌≡◌, ◌↔◌, ◌⊎◌, ℕ, ◌+◌, ◌≤◌, ◌<◌, true, Option, None, Some, List, [], ◌∷◌, ◌++◌, length}
use Rattle.std.specs.List.{list_any}
use Rattle.std.specs.Option.{option_map}
use Rattle.std.specs.Str.{bytes_eq}
use Rattle.block_header.specs.Hash.{dsha, meets}
use Rattle.pool_history.specs.declared.events.Event.{Event}
use Rattle.pool_history.specs.declared.events.Event.TheVariants as event
use Rattle.pool_history.specs.declared.events.JobState.TheVariants as state
use Rattle.pool_history.specs.declared.refusals.Failed.{Failed}
use Rattle.pool_history.specs.declared.refusals.Failed.TheVariants as failed
use Rattle.pool_history.specs.declared.settings.Rules.{Rules}
use Rattle.pool_history.specs.declared.templates.TipData.{TipData}
use Rattle.pool_history.specs.ByPlaces.{IsState, class_at_place, jobs_in, live_jobs, own_jobs, tip_in}
use Rattle.pool_history.specs.Channels.{OpenChannel, channel_in}
use Rattle.pool_history.specs.Crediting.{booked_with, credit_share, first_failed, headers}
use Rattle.pool_history.specs.Headers.{rolled_length}
use Rattle.pool_history.specs.Jobs.{Job, is_open_to, job_numbered, jobs_of, live_job}
use Rattle.pool_history.specs.Judging.{Admitted, Share, is_standard, min_ntime_of, outside, rebuilt_header, rolling_mask, version_of}
use Rattle.pool_history.specs.Sessions.{credits, past_of, script_of}
use Rattle.history_laws.specs.Places.{channels_from}

-- the open channel with an id
abbrev pub IsOpenChannel : List Event → ℕ → OpenChannel → Type 0
IsOpenChannel history id channel = channel_in (channels_from 0 0 history) id ≡ Some channel

-- a miner's own live job with a number: among the last sixteen of some channel
abbrev pub IsOwnLiveJob : List Event → ℕ → Job → Type 0
IsOwnLiveJob history number job =
    (channel : ℕ) × (job_numbered number (own_jobs history channel) ≡ Some job)

-- the live job with a number: a template's, or a miner's own
abbrev pub IsLiveJob : List Event → ℕ → Job → Type 0
IsLiveJob history number job =
    (job_numbered number (live_jobs history) ≡ Some job) ⊎ IsOwnLiveJob history number job

-- the last tip
abbrev pub IsLastTip : List Event → TipData → Type 0
IsLastTip history tip = option_map (λ tipped. tipped.tip) (tip_in history) ≡ Some tip

-- first: the channel is open, is the session's, has an account, and is standard exactly where the
-- message is
pub record IsItsChannel (history : List Event) (session : ℕ) (share : Share) : Type 0 where
  pub channel : OpenChannel
  pub is_open : IsOpenChannel history share.channel channel
  pub is_its : channel.session ≡ session
  pub has_account : 1 ≤ length channel.account
  pub standard : is_standard channel.kind ≡ share.is_standard

-- second: the extranonce has the length that the channel rolls
pub record HasRolledLength (history : List Event) (share : Share) : Type 0 where
  pub channel : OpenChannel
  pub is_open : IsOpenChannel history share.channel channel
  pub long : length share.extranonce ≡ rolled_length channel.kind channel.lead

-- third: the job is neither unknown nor future, and is no other channel's own
pub record IsMineable (history : List Event) (share : Share) : Type 0 where
  pub not_unknown : ¬ IsState state.Unknown history share.job
  pub not_future : ¬ IsState state.Future history share.job
  pub job : Job
  pub is_job : job_numbered share.job (jobs_in history) ≡ Some job
  pub not_others : is_open_to share.channel job.source ≡ true

-- fourth: the job is live, over a tip
pub record IsLiveOverTip (history : List Event) (share : Share) : Type 0 where
  pub live : IsState state.Live history share.job
  pub tip : TipData
  pub is_tip : IsLastTip history tip

-- fifth: the version equals the job's outside the bits that may be rolled
pub record HasVersion (rules : Rules) (history : List Event) (share : Share) : Type 0 where
  pub job : Job
  pub is_job : IsLiveJob history share.job job
  pub same : outside (rolling_mask rules) share.version
      ≡ outside (rolling_mask rules) (version_of job.source)

-- sixth: the time is in the window from the least one that the job allows on, without wrapping
pub record IsInWindow (rules : Rules) (history : List Event) (share : Share) : Type 0 where
  pub job : Job
  pub is_job : IsLiveJob history share.job job
  pub tip : TipData
  pub is_tip : IsLastTip history tip
  pub least : min_ntime_of job.source tip ≤ share.ntime
  pub most : share.ntime ≤ min_ntime_of job.source tip + rules.ntime_window

-- what a share's header is rebuilt with: its channel, its live job, since when that is live, and
-- the last tip
pub record IsRebuiltWith (history : List Event) (channel job : ℕ) (with : Admitted) : Type 0 where
  pub is_open : IsOpenChannel history channel with.channel
  pub is_job : IsLiveJob history job with.job
  pub is_live_at : with.job.live_at ≡ Some with.live_at
  pub is_tip : IsLastTip history with.tip

-- seventh: the hash of the rebuilt header meets the class that the channel had at the place since
-- which the job is live
pub record MeetsItsClass (rules : Rules) (history : List Event) (share : Share) : Type 0 where
  pub with : Admitted
  pub is_with : IsRebuiltWith history share.channel share.job with
  pub meets_class : meets (dsha (rebuilt_header rules.pool_script with share))
      (class_at_place history with.channel.id with.live_at with.channel.opening_class) ≡ true

-- a Credit of the history has this header, rebuilt of its own fields by the events before it
pub record HasCredited (history : List Event) (header : List ℕ) : Type 0 where
  pub before : List Event
  pub session : ℕ
  pub channel : ℕ
  pub job : ℕ
  pub nonce : ℕ
  pub ntime : ℕ
  pub version : ℕ
  pub extranonce : List ℕ
  pub after : List Event
  pub parts : history
      ≡ before ++ event.Credit session channel job nonce ntime version extranonce ∷ after
  pub with : Admitted
  pub is_with : IsRebuiltWith before channel job with
  pub is_header : rebuilt_header (script_of (past_of before)) with
      (credit_share with channel job nonce ntime version extranonce) ≡ header

-- eighth: no Credit of the history has the rebuilt header
pub record IsNewHeader (rules : Rules) (history : List Event) (share : Share) : Type 0 where
  pub with : Admitted
  pub is_with : IsRebuiltWith history share.channel share.job with
  pub not_credited : ¬ HasCredited history (rebuilt_header rules.pool_script with share)

-- the condition of each code; ninth: there are fewer credits than the limit
abbrev pub Holds : Rules → List Event → ℕ → Share → Failed → Type 0
Holds rules history session share failed.Channel = IsItsChannel history session share
Holds rules history session share failed.ExtranonceSize = HasRolledLength history share
Holds rules history session share failed.Job = IsMineable history share
Holds rules history session share failed.Stale = IsLiveOverTip history share
Holds rules history session share failed.Version = HasVersion rules history share
Holds rules history session share failed.Ntime = IsInWindow rules history share
Holds rules history session share failed.Difficulty = MeetsItsClass rules history share
Holds rules history session share failed.Duplicate = IsNewHeader rules history share
Holds rules history session share failed.Full = credits (past_of history) < rules.credit_limit

-- the nine in their order
abbrev pub nine_codes : List Failed
nine_codes =
    failed.Channel ∷ failed.ExtranonceSize ∷ failed.Job ∷ failed.Stale ∷ failed.Version
    ∷ failed.Ntime
    ∷ failed.Difficulty ∷ failed.Duplicate ∷ failed.Full ∷ []

-- none fails, or this one does and all before it hold
abbrev pub FailsFirst : (Failed → Type 0) → List Failed → Option Failed → Type 0
FailsFirst holds [] None = Unit {0}
FailsFirst holds [] (Some code) = ⊥
FailsFirst holds (next ∷ more) told =
    (¬ holds next × (told ≡ Some next)) ⊎ (holds next × FailsFirst holds more told)

-- what is told is the first of the nine conditions that fails, and nothing exactly where all hold
abbrev pub ConditionsStandByThemselves : Type 0
ConditionsStandByThemselves =
    (rules : Rules) (history : List Event) (session : ℕ) (share : Share) (told : Option Failed)
    → (first_failed rules (past_of history) session share ≡ told)
    ↔ FailsFirst (Holds rules history session share) nine_codes told

-- the headers that no later share may have are those of the Credits, each rebuilt by the events
-- before it
abbrev pub HeadersByPlaces : Type 0
HeadersByPlaces =
    (history : List Event) (header : List ℕ)
    → IsTrue (list_any (bytes_eq header) (headers (past_of history))) ↔ HasCredited history header

-- the live job with a number that the recursion over jobs tells is the one by places
abbrev pub LiveJobsByPlaces : Type 0
LiveJobsByPlaces =
    (history : List Event) (number : ℕ) (job : Job)
    → (live_job (jobs_of (past_of history)) number ≡ Some job) ↔ IsLiveJob history number job

-- since when a job is live: since a place of the history
pub record IsLiveSince (history : List Event) (job : Job) : Type 0 where
  pub place : ℕ
  pub live_at : job.live_at ≡ Some place
  pub within : place < length history

-- so each live job says
abbrev pub LiveJobsSaySince : Type 0
LiveJobsSaySince =
    (history : List Event) (number : ℕ) (job : Job)
    → live_job (jobs_of (past_of history)) number ≡ Some job → IsLiveSince history job

-- what a credit is booked with, and so its account, its work and whether it is a block, is what
-- stands by places before it
abbrev pub BookingsByPlaces : Type 0
BookingsByPlaces =
    (history : List Event) (channel job : ℕ) (with : Admitted)
    → (booked_with (past_of history) channel job ≡ Some with)
    ↔ IsRebuiltWith history channel job with
