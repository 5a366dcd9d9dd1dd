-- Worked examples of a miner's own job: its coinbase, its number and state, and what is refused.
use Rattle.std.proofs.Common.{zero, suc, ◌≡◌, ℕ, ◌++◌, true, false, None, Some, List, [], ◌∷◌, refl, lit≤}
use Rattle.std.specs.Prelude.{replicate}
use Rattle.coinbase.specs.Compact.{compact}
use Rattle.coinbase.specs.Outputs.{outputs_within}
use Rattle.coinbase.specs.Reading.{number_at, compact_at, sized_at, output_at}
use Rattle.coinbase.specs.declared.error.OutputsError.TheVariants as outputs
use Rattle.pool_history.specs.declared.asking.Request.TheVariants as request
use Rattle.pool_history.specs.declared.causes.Cause.TheVariants as cause
use Rattle.pool_history.specs.declared.events.Event.{Event}
use Rattle.pool_history.specs.declared.events.Event.TheVariants as event
use Rattle.pool_history.specs.declared.events.JobState.TheVariants as state
use Rattle.pool_history.specs.declared.events.Kind.TheVariants as kind
use Rattle.pool_history.specs.declared.events.Role.TheVariants as role
use Rattle.pool_history.specs.declared.refusals.CustomError.TheVariants as custom
use Rattle.pool_history.specs.declared.refusals.Failed.TheVariants as failed
use Rattle.pool_history.specs.declared.refusals.GrantError.TheVariants as grant
use Rattle.pool_history.specs.declared.replies.Reply.TheVariants as reply
use Rattle.pool_history.specs.declared.templates.CustomData.{CustomData}
use Rattle.pool_history.specs.Answering.{step, without_event, with_event}
use Rattle.pool_history.specs.Crediting.{first_failed, reward_of}
use Rattle.pool_history.specs.Jobs.{FromMiner, jobs_of, state_of}
use Rattle.pool_history.specs.Judging.{job_parts}
use Rattle.pool_history.specs.Legal.{cause_of}
use Rattle.pool_history.specs.Refusing.{token_of}
use Rattle.pool_history.proofs.Given.{rules, template_of, tip_of, start, opens, comes, tips, tipped, share}

-- the worked session with the flag for jobs of one's own
abbrev pub selecting : List Event
selecting = tips ∷ comes ∷ opens ∷ event.Enter 0 role.Solo 2 ∷ start ∷ []

abbrev pub grants : Event
grants = event.Grant 0 (0x61 ∷ []) false []

abbrev pub granted : List Event
granted = grants ∷ selecting

-- a job with one output of 2,000 satoshis to this script
abbrev pub offer_to : ℕ → ℕ → CustomData
offer_to script token = record {
  channel_id = 1;
  token = token_of token;
  version = 0x20000000;
  prev_hash = replicate 32 0x11;
  min_ntime = 1000000;
  nbits = 0x207fffff;
  coinbase_tx_version = 2;
  coinbase_prefix = 0x51 ∷ 0x51 ∷ [];
  coinbase_tx_input_sequence = 0xffffffff;
  coinbase_tx_outputs = 0xd0 ∷ 0x07 ∷ 0 ∷ 0 ∷ 0 ∷ 0 ∷ 0 ∷ 0 ∷ 1 ∷ script ∷ [];
  coinbase_tx_locktime = 0;
  merkle_path = [];
  path_fits = lit≤ tt;
}

abbrev pub offer : CustomData
offer = offer_to 0x51 1

abbrev pub brings : Event
brings = event.Custom 0 offer

-- the token and the job are answered with their numbers
pub step-grant : step selecting 0 (request.Grant (0x61 ∷ []) None) ≡ with_event grants (reply.Granted 1 (0x51 ∷ []))
step-grant = refl

pub step-custom : step granted 0 (request.Custom offer) ≡ with_event brings (reply.CustomJob 2)
unfolding outputs_within output_at sized_at compact_at number_at compact
step-custom = refl

pub custom-state : state_of (jobs_of (brings ∷ granted)) 2 ≡ state.Live
custom-state = refl

pub custom-stale : state_of (jobs_of (event.Tip 0 (tip_of 6 0x22) ∷ event.Template 0 (template_of 6 true) ∷ brings ∷ granted)) 2 ≡ state.Stale
custom-stale = refl

-- its coinbase and its reward
pub custom-prefix : (job_parts (FromMiner offer) (0x51 ∷ [])).prefix ≡ (0x02 ∷ 0x00 ∷ 0x00 ∷ 0x00 ∷ 0x01 ∷ []) ++ replicate 32 0x00 ++ (0xff ∷ 0xff ∷ 0xff ∷ 0xff ∷ 0x0e ∷ 0x51 ∷ 0x51 ∷ [])
custom-prefix = refl

pub custom-suffix : (job_parts (FromMiner offer) (0x51 ∷ [])).suffix ≡ (0xff ∷ 0xff ∷ 0xff ∷ 0xff ∷ 0x01 ∷ 0xd0 ∷ 0x07 ∷ []) ++ replicate 6 0x00 ++ (0x01 ∷ 0x51 ∷ 0x00 ∷ 0x00 ∷ 0x00 ∷ 0x00 ∷ [])
unfolding outputs_within output_at sized_at compact_at number_at compact
custom-suffix = refl

pub custom-reward : reward_of (FromMiner offer) ≡ 2000
unfolding outputs_within output_at sized_at compact_at number_at compact
custom-reward = refl

-- without the flag both requests have no session
pub step-grant_without_flag : step tipped 0 (request.Grant (0x61 ∷ []) None) ≡ without_event reply.NoSession
step-grant_without_flag = refl

pub step-custom_without_flag : step tipped 0 (request.Custom offer) ≡ without_event reply.NoSession
step-custom_without_flag = refl

-- another channel's own job is no job to a channel
pub other_channels_job : first_failed rules (event.Open 0 kind.Extended (0x62 ∷ []) 0 (0 ∷ 0 ∷ 0 ∷ 1 ∷ []) ∷ brings ∷ granted) 0 (record share { channel = 2; job = 2 }) ≡ Some failed.Job
other_channels_job = refl

pub step-no_channel : step (granted) 0 (request.Custom (record offer { channel_id = 2 })) ≡ without_event (reply.CustomRefused custom.NotOpen)
step-no_channel = refl

pub cause_of-no_channel : cause_of (granted) (event.Custom 0 (record offer { channel_id = 2 })) ≡ Some cause.NotOpen
cause_of-no_channel = refl

pub step-spent_token : step (brings ∷ granted) 0 (request.Custom (offer)) ≡ without_event (reply.CustomRefused custom.BadToken)
step-spent_token = refl

pub cause_of-spent_token : cause_of (brings ∷ granted) (event.Custom 0 (offer)) ≡ Some cause.BadToken
cause_of-spent_token = refl

pub step-no_token : step (granted) 0 (request.Custom (offer_to 0x51 2)) ≡ without_event (reply.CustomRefused custom.BadToken)
step-no_token = refl

pub cause_of-no_token : cause_of (granted) (event.Custom 0 (offer_to 0x51 2)) ≡ Some cause.BadToken
cause_of-no_token = refl

pub step-token_of_another : step (event.Grant 0 (0x62 ∷ []) false [] ∷ selecting) 0 (request.Custom (offer)) ≡ without_event (reply.CustomRefused custom.BadToken)
step-token_of_another = refl

pub cause_of-token_of_another : cause_of (event.Grant 0 (0x62 ∷ []) false [] ∷ selecting) (event.Custom 0 (offer)) ≡ Some cause.BadToken
cause_of-token_of_another = refl

pub step-other_tip : step (granted) 0 (request.Custom (record offer { prev_hash = replicate 32 0x22 })) ≡ without_event (reply.CustomRefused custom.StaleTip)
step-other_tip = refl

pub cause_of-other_tip : cause_of (granted) (event.Custom 0 (record offer { prev_hash = replicate 32 0x22 })) ≡ Some cause.StalePrevHash
cause_of-other_tip = refl

pub step-other_nbits : step (granted) 0 (request.Custom (record offer { nbits = 0x1d00ffff })) ≡ without_event (reply.CustomRefused custom.StaleTip)
step-other_nbits = refl

pub cause_of-other_nbits : cause_of (granted) (event.Custom 0 (record offer { nbits = 0x1d00ffff })) ≡ Some cause.StalePrevHash
cause_of-other_nbits = refl

pub step-early : step (granted) 0 (request.Custom (record offer { min_ntime = 999999 })) ≡ without_event (reply.CustomRefused (custom.EarlyTime 1000000))
step-early = refl

pub cause_of-early : cause_of (granted) (event.Custom 0 (record offer { min_ntime = 999999 })) ≡ Some cause.BadNtime
cause_of-early = refl

pub step-long_path : step (granted) 0 (request.Custom (record offer { merkle_path = replicate 33 (replicate 32 0); path_fits = lit≤ tt })) ≡ without_event (reply.CustomRefused (custom.BadPath 33))
step-long_path = refl

pub cause_of-long_path : cause_of (granted) (event.Custom 0 (record offer { merkle_path = replicate 33 (replicate 32 0); path_fits = lit≤ tt })) ≡ Some cause.BadPath
cause_of-long_path = refl

pub step-other_path : step (event.Grant 0 (0x61 ∷ []) true (replicate 1 (replicate 32 0)) ∷ selecting) 0 (request.Custom (offer)) ≡ without_event (reply.CustomRefused (custom.BadPath 0))
step-other_path = refl

pub cause_of-other_path : cause_of (event.Grant 0 (0x61 ∷ []) true (replicate 1 (replicate 32 0)) ∷ selecting) (event.Custom 0 (offer)) ≡ Some cause.BadPath
cause_of-other_path = refl

pub step-foreign_output : step (granted) 0 (request.Custom (offer_to 0x52 1)) ≡ without_event (reply.CustomRefused (custom.Coinbase (outputs.ForeignOutput 0)))
unfolding outputs_within output_at sized_at compact_at number_at compact
step-foreign_output = refl

pub cause_of-foreign_output : cause_of (granted) (event.Custom 0 (offer_to 0x52 1)) ≡ Some cause.BadCoinbase
unfolding outputs_within output_at sized_at compact_at number_at compact
cause_of-foreign_output = refl

-- a token for too long a path, and for an account that isn't known
pub step-grant_long_path : step selecting 0 (request.Grant (0x61 ∷ []) (Some (replicate 33 (replicate 32 0)))) ≡ without_event (reply.GrantRefused (grant.PathTooLong 33))
step-grant_long_path = refl

pub step-grant_unknown : step selecting 0 (request.Grant (0x20 ∷ []) None) ≡ without_event (reply.GrantRefused grant.UnknownUser)
step-grant_unknown = refl

pub cause_of-grant_long_path : cause_of selecting (event.Grant 0 (0x61 ∷ []) true (replicate 33 (replicate 32 0))) ≡ Some cause.BadPath
cause_of-grant_long_path = refl

pub cause_of-grant_unknown : cause_of selecting (event.Grant 0 (0x20 ∷ []) false []) ≡ Some cause.UnknownUser
cause_of-grant_unknown = refl

-- where it is refused no more: the job is legal
pub cause_of-custom : cause_of granted brings ≡ None
unfolding outputs_within output_at sized_at compact_at number_at compact
cause_of-custom = refl

-- so many jobs of one channel's own: the seventeenth makes the channel's oldest stale, and no other channel's
abbrev pub with_own : ℕ → ℕ → List Event → List Event
with_own channel zero past = past
with_own channel (suc n) past = event.Custom 0 (record offer { channel_id = channel }) ∷ with_own channel n past

pub own-sixteen : state_of (jobs_of (with_own 1 16 granted)) 2 ≡ state.Live
own-sixteen = refl

pub own-seventeen_oldest : state_of (jobs_of (with_own 1 17 granted)) 2 ≡ state.Stale
own-seventeen_oldest = refl

pub own-seventeen_second : state_of (jobs_of (with_own 1 17 granted)) 3 ≡ state.Live
own-seventeen_second = refl

pub own-of_another_channel : state_of (jobs_of (with_own 2 16 (with_own 1 16 granted))) 2 ≡ state.Live
own-of_another_channel = refl

-- and none of a template's
pub own-beside_template : state_of (jobs_of (with_own 1 17 granted)) 1 ≡ state.Live
own-beside_template = refl
