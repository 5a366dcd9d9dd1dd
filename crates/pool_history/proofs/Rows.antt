-- Worked examples of channels, leads, jobs and shares, as far as no hash decides.
use Rattle.std.proofs.Common.{map, ◌≡◌, ℕ, ◌+◌, ◌++◌, Bool, true, false, Option, None, Some, Result, Ok, Err, List, [], ◌∷◌, refl, zero, suc}
use Rattle.std.specs.Prelude.{replicate}
use Rattle.std.specs.Option.{option_map}
use Rattle.block_header.specs.Target.{first_class}
use Rattle.coinbase.specs.Compact.{compact}
use Rattle.coinbase.specs.Outputs.{outputs_within}
use Rattle.pool_history.specs.declared.asking.OpenAsk.{OpenAsk}
use Rattle.pool_history.specs.declared.events.Event.{Event}
use Rattle.pool_history.specs.declared.events.Event.TheVariants as event
use Rattle.pool_history.specs.declared.events.JobState.TheVariants as state
use Rattle.pool_history.specs.declared.events.Kind.TheVariants as kind
use Rattle.pool_history.specs.declared.refusals.Failed.TheVariants as failed
use Rattle.pool_history.specs.declared.refusals.JobError.TheVariants as job
use Rattle.pool_history.specs.declared.refusals.OpenError.TheVariants as open_error
use Rattle.coinbase.specs.declared.error.AssemblyError.TheVariants as assembly
use Rattle.pool_history.specs.Channels.{OpenChannel, channel_in, channels_of, class_at, present_class}
use Rattle.pool_history.specs.Crediting.{bookings_of, first_failed}
use Rattle.pool_history.specs.Jobs.{Job, jobs_of, live_job, state_of}
use Rattle.pool_history.specs.Judging.{Admitted, admission}
use Rattle.pool_history.specs.Refusing.{class_of_target, lead_for, openable, template_refusal}
use Rattle.pool_history.specs.Spaces.{first_free, lowest}
use Rattle.pool_history.proofs.Given.{extended_rolls, credits, tips, rules, template_of, tip_of, opened, templated, tipped, share}

-- the strings of one byte below a number, the last first
abbrev pub bytes_below : ℕ → List (List ℕ)
bytes_below zero = []
bytes_below (suc n) = (n ∷ []) ∷ bytes_below n

-- a fresh space: a lead of four bytes, and then one of one byte that neither begins it nor is begun by it
pub lowest-fresh : lowest 4 [] ≡ Some (replicate 4 0)
unfolding first_free
lowest-fresh = refl

pub lowest-beside_longer : lowest 1 (replicate 4 0 ∷ []) ≡ Some (1 ∷ [])
unfolding first_free
lowest-beside_longer = refl

pub lowest-inside_none : lowest 2 ((0 ∷ []) ∷ []) ≡ Some (1 ∷ 0 ∷ [])
unfolding first_free
lowest-inside_none = refl

-- 256 leads of one byte leave no space, and the one that is closed is given next
pub lowest-full : lowest 1 (bytes_below 256) ≡ None
unfolding first_free
lowest-full = refl

pub lowest-last : lowest 1 (bytes_below 255) ≡ Some (255 ∷ [])
unfolding first_free
lowest-last = refl

pub lowest-given_back : lowest 1 ((8 ∷ []) ∷ bytes_below 7) ≡ Some (7 ∷ [])
unfolding first_free
lowest-given_back = refl

-- an opening that asks for so many bytes, under the easiest target
abbrev pub asks : ℕ → OpenAsk
asks size = record { kind = kind.Extended; identity = 0x61 ∷ []; max_target = replicate 32 0xff; min_size = size; standard_rolls_none = extended_rolls size }

-- a size of 11 leaves one byte to the lead, and 12 is too large
pub lead_of_size_11 : lead_for opened (asks 11) ≡ Some (1 ∷ [])
unfolding first_free
lead_of_size_11 = refl

pub size_12_refused : openable rules opened 0 (asks 12) ≡ Err (open_error.SizeTooLarge 12)
unfolding first_class
size_12_refused = refl

-- the classes of targets
pub class-easiest : class_of_target (replicate 32 0xff) ≡ 0
unfolding first_class
class-easiest = refl

pub class-a_bit_less : class_of_target (replicate 31 0xff ++ 0x7f ∷ []) ≡ 1
unfolding first_class
class-a_bit_less = refl

pub class-one_less : class_of_target (0xfe ∷ replicate 31 0xff) ≡ 1
unfolding first_class
class-one_less = refl

pub class-of_zero : class_of_target (replicate 32 0) ≡ 256
unfolding first_class
class-of_zero = refl

-- an opening whose target has class 61
pub class_61_refused : openable rules opened 0 (record (asks 8) { max_target = replicate 24 0xff ++ 7 ∷ replicate 7 0 }) ≡ Err (open_error.TargetOutOfRange 61)
unfolding first_class
class_61_refused = refl

-- the class of job 1 was set before the channel's present class, which counts for the job after it
abbrev pub set_later : List Event
set_later = event.Class 0 1 60 ∷ tipped

abbrev pub next_job : List Event
next_job = event.Template 0 (template_of 6 false) ∷ set_later

-- the class of channel 1 at a job
abbrev pub class_with : Option OpenChannel → Option Job → Option ℕ
class_with (Some channel) (Some job) = option_map (class_at channel) job.live_at
class_with channel job = None

abbrev pub class_for : List Event → ℕ → Option ℕ
class_for past number = class_with (channel_in (channels_of past) 1) (live_job (jobs_of past) number)

pub class-present : option_map present_class (channel_in (channels_of next_job) 1) ≡ Some 60
class-present = refl

pub class_at_old_job : class_for next_job 1 ≡ Some 0
class_at_old_job = refl

pub class_at_next_job : class_for next_job 2 ≡ Some 60
class_at_next_job = refl

-- a job becomes live by its tip: a class that was set between the template and the tip counts, also for the work
abbrev pub set_before_tip : List Event
set_before_tip = tips ∷ event.Class 0 1 5 ∷ templated

pub class_set_before_tip : class_for set_before_tip 1 ≡ Some 5
class_set_before_tip = refl

pub work_set_before_tip : map (λ credit. credit.work) (bookings_of (credits ∷ set_before_tip)) ≡ 32 ∷ []
work_set_before_tip = refl

pub work_by_old_class : map (λ credit. credit.work) (bookings_of (credits ∷ next_job)) ≡ 1 ∷ []
work_by_old_class = refl

-- job 1 is future, live, and stale after the next tip; a number that no job has is unknown
abbrev pub after_next_tip : List Event
after_next_tip = event.Tip 0 (tip_of 6 0x22) ∷ event.Template 0 (template_of 6 true) ∷ tipped

pub state-future : state_of (jobs_of templated) 1 ≡ state.Future
state-future = refl

pub state-live : state_of (jobs_of tipped) 1 ≡ state.Live
state-live = refl

pub state-stale : state_of (jobs_of after_next_tip) 1 ≡ state.Stale
state-stale = refl

pub state-live_next : state_of (jobs_of after_next_tip) 2 ≡ state.Live
state-live_next = refl

pub state-unknown : state_of (jobs_of after_next_tip) 3 ≡ state.Unknown
state-unknown = refl

pub state-zero : state_of (jobs_of after_next_tip) 0 ≡ state.Unknown
state-zero = refl

-- so many future templates, and so many that are live at once
abbrev pub with_future : ℕ → List Event → List Event
with_future zero past = past
with_future (suc n) past = event.Template 0 (template_of (100 + n) true) ∷ with_future n past

abbrev pub with_live : ℕ → List Event → List Event
with_live zero past = past
with_live (suc n) past = event.Template 0 (template_of (200 + n) false) ∷ with_live n past

-- the seventeenth future job makes the oldest stale, and keeps the newest
pub future-sixteen : state_of (jobs_of (with_future 16 opened)) 1 ≡ state.Future
future-sixteen = refl

pub future-seventeen_oldest : state_of (jobs_of (with_future 17 opened)) 1 ≡ state.Stale
future-seventeen_oldest = refl

pub future-seventeen_second : state_of (jobs_of (with_future 17 opened)) 2 ≡ state.Future
future-seventeen_second = refl

pub future-seventeen_newest : state_of (jobs_of (with_future 17 opened)) 17 ≡ state.Future
future-seventeen_newest = refl

-- a tip's job and 64 templates that are live at once: the tip's job becomes stale
pub live-63_more : state_of (jobs_of (with_live 63 tipped)) 1 ≡ state.Live
live-63_more = refl

pub live-64_more_first : state_of (jobs_of (with_live 64 tipped)) 1 ≡ state.Stale
live-64_more_first = refl

pub live-64_more_second : state_of (jobs_of (with_live 64 tipped)) 2 ≡ state.Live
live-64_more_second = refl

-- a template whose id has a future job is refused, and one that isn't future before any tip
pub template-known : template_refusal (0x51 ∷ []) templated (template_of 5 true) ≡ Some (job.TemplateKnown 5)
template-known = refl

pub template-no_tip : template_refusal (0x51 ∷ []) templated (template_of 6 false) ≡ Some job.NoTip
template-no_tip = refl

-- a reward of 2^40 is refused, and one less is accepted
pub template-reward_too_large : template_refusal (0x51 ∷ []) opened (record (template_of 5 true) { coinbase_tx_value_remaining = 1099511627776 }) ≡ Some (job.Coinbase (assembly.RewardTooLarge 1099511627776))
unfolding outputs_within
template-reward_too_large = refl

pub template-reward_just_small : template_refusal (0x51 ∷ []) opened (record (template_of 5 true) { coinbase_tx_value_remaining = 1099511627775 }) ≡ None
unfolding outputs_within compact
template-reward_just_small = refl

-- the conditions of a share, one by one
pub failed-channel_2 : first_failed rules tipped 0 (record share { channel = 2 }) ≡ Some failed.Channel
failed-channel_2 = refl

pub failed-standard_message : first_failed rules tipped 0 (record share { is_standard = true }) ≡ Some failed.Channel
failed-standard_message = refl

pub failed-extranonce_of_7 : first_failed rules tipped 0 (record share { extranonce = replicate 7 0 }) ≡ Some failed.ExtranonceSize
failed-extranonce_of_7 = refl

pub failed-job_2 : first_failed rules tipped 0 (record share { job = 2 }) ≡ Some failed.Job
failed-job_2 = refl

pub failed-job_future : first_failed rules templated 0 (share) ≡ Some failed.Job
failed-job_future = refl

pub failed-job_stale : first_failed rules after_next_tip 0 (share) ≡ Some failed.Stale
failed-job_stale = refl

pub failed-job_unknown_after : first_failed rules after_next_tip 0 (record share { job = 4 }) ≡ Some failed.Job
failed-job_unknown_after = refl

pub failed-version_outside : first_failed rules tipped 0 (record share { version = 0x20000001 }) ≡ Some failed.Version
failed-version_outside = refl

pub failed-ntime_early : first_failed rules tipped 0 (record share { ntime = 999999 }) ≡ Some failed.Ntime
failed-ntime_early = refl

pub failed-ntime_late : first_failed rules tipped 0 (record share { ntime = 1000601 }) ≡ Some failed.Ntime
failed-ntime_late = refl

pub failed-other_session : first_failed rules tipped 1 share ≡ Some failed.Channel
failed-other_session = refl

pub failed-without_rolling : first_failed (record rules { version_rolling = false }) tipped 0 (record share { version = 0x20002000 }) ≡ Some failed.Version
failed-without_rolling = refl

-- what meets the first six conditions
abbrev pub is_admitted : {E : Type 0} → Result Admitted E → Bool
is_admitted (Ok with) = true
is_admitted (Err failed) = false

pub admission-session : is_admitted (admission rules tipped 0 share) ≡ true
admission-session = refl

pub admission-rolled_length : is_admitted (admission rules tipped 0 (record share { version = 0x20002000 })) ≡ true
admission-rolled_length = refl

pub admission-at_the_end_of_the_window : is_admitted (admission rules tipped 0 (record share { ntime = 1000600 })) ≡ true
admission-at_the_end_of_the_window = refl

-- times that would wrap are compared as they are: the window of a tip at the end of 32 bits goes past it
abbrev pub late_tip : List Event
late_tip = event.Tip 0 (record (tip_of 5 0x11) { header_timestamp = 0xffffffff }) ∷ templated

pub failed-no_wrapping : first_failed rules late_tip 0 (record share { ntime = 100 }) ≡ Some failed.Ntime
failed-no_wrapping = refl

pub admission-past_32_bits : is_admitted (admission rules late_tip 0 (record share { ntime = 0xffffffff })) ≡ true
admission-past_32_bits = refl
