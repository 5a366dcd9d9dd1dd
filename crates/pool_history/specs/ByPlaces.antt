-- The states of jobs and the class at a job once more, by places over the history from its front.
-- The laws `jobs_by_places`, `states_by_places` and `classes_by_places` say that these words and
-- the recursions over the past are the same.
-- Held to the recursions by the laws, and these are computed (`Rows`).
use Rattle.std.specs.Prelude.{◌≡◌, ◌≤◌, ◌⊎◌, IsTrue, length, ℕ, ◌+◌, ◌==◌, ◌&&◌, Bool, true, false, not, if◌then◌else◌, Option, None, Some, List, [], ◌∷◌, ◌++◌, filter, map, take, nat_le, nat_lt}
use Rattle.std.specs.List.{AllByRecursion}
use Rattle.std.specs.Option.{option_map}
use Rattle.pool_history.specs.declared.events.Event.{Event}
use Rattle.pool_history.specs.declared.events.Event.TheVariants as event
use Rattle.pool_history.specs.declared.events.JobState.{JobState}
use Rattle.pool_history.specs.declared.events.JobState.TheVariants as state
use Rattle.pool_history.specs.declared.templates.TipData.{TipData}
use Rattle.pool_history.specs.Channels.{ClassSet, OpenChannel, channels_of, class_at}
use Rattle.pool_history.specs.Jobs.{Job, Source, FromTemplate, FromMiner, Standing, custom_job, future_in, has_number, is_own, jobs_of, last, live_at_once, made_live, state_of, template_job}
use Rattle.pool_history.specs.Sessions.{past_of}

-- the jobs from a place and a number on: the Template and Custom events in their order
abbrev pub jobs_from : ℕ → ℕ → List Event → List Job
jobs_from at number [] = []
jobs_from at number (event.Template session template ∷ more) =
    template_job number at session template
    ∷ jobs_from (at + 1) (number + 1) more
jobs_from at number (event.Custom session custom ∷ more) =
    custom_job number at custom
    ∷ jobs_from (at + 1) (number + 1) more
jobs_from at number (event ∷ more) = jobs_from (at + 1) number more

-- job j is the j-th Template or Custom event, counted from 1
abbrev pub jobs_in : List Event → List Job
jobs_in history = jobs_from 0 1 history

-- a tip and its place
pub record TipAt : Type 0 where
  pub at : ℕ
  pub tip : TipData

-- the last tip from a place on, or the one before
abbrev pub last_tip : ℕ → Option TipAt → List Event → Option TipAt
last_tip at before [] = before
last_tip at before (event.Tip session tip ∷ more) =
    last_tip (at + 1) (Some (record { at = at; tip = tip })) more
last_tip at before (event ∷ more) = last_tip (at + 1) before more

-- the last tip of a history
abbrev pub tip_in : List Event → Option TipAt
tip_in history = last_tip 0 None history

-- a job is late where it comes after the tip; all are where there is none
abbrev pub is_late : Option TipAt → Job → Bool
is_late None job = true
is_late (Some tipped) job = nat_lt tipped.at job.at

-- the late jobs
abbrev pub late_jobs : List Event → List Job
late_jobs history = filter (is_late (tip_in history)) (jobs_in history)

-- a template's job that is future, and one that isn't
abbrev pub is_future : Source → Bool
is_future (FromTemplate template) = template.future_template
is_future (FromMiner custom) = false

abbrev pub is_ready : Source → Bool
is_ready (FromTemplate template) = not template.future_template
is_ready (FromMiner custom) = false

-- the future jobs: the last 16 of the late templates that are future
abbrev pub future_jobs : List Event → List Job
future_jobs history = last 16 (filter (λ job. is_future job.source) (late_jobs history))

-- the job that a tip made live: the future job of the history before it that has its template
abbrev pub tip_job : List Event → Option TipAt → List Job
tip_job history None = []
tip_job history (Some tipped) =
    made_live tipped.at (future_in (future_jobs (take tipped.at history)) tipped.tip.template_id)

-- the live jobs of templates: the last 64 of the last tip's job and the late templates that aren't
-- future
abbrev pub live_jobs : List Event → List Job
live_jobs history =
    last 64
    (tip_job history (tip_in history)
    ++ map live_at_once (filter (λ job. is_ready job.source) (late_jobs history)))

-- a channel's own live jobs: the last 16 late ones
abbrev pub own_jobs : List Event → ℕ → List Job
own_jobs history channel =
    last 16 (map live_at_once (filter (λ job. is_own channel job.source) (late_jobs history)))

-- these are the jobs of the history
pub record AreJobsOf (history : List Event) (standing : Standing) : Type 0 where
  pub all : standing.all ≡ jobs_in history
  pub future : standing.future ≡ future_jobs history
  pub live : standing.live ≡ live_jobs history
  pub custom : (channel : ℕ)
      → filter (λ job. is_own channel job.source) standing.custom ≡ own_jobs history channel
  pub tip : standing.tip ≡ option_map (λ tipped. tipped.tip) (tip_in history)

-- the recursion over the past gives the jobs that the words say
abbrev pub JobsByPlaces : Type 0
JobsByPlaces = (history : List Event) → AreJobsOf history (jobs_of (past_of history))

-- how many channels were opened
abbrev pub opens_in : List Event → ℕ
opens_in [] = 0
opens_in (event.Open session kind account class lead ∷ more) = opens_in more + 1
opens_in (event ∷ more) = opens_in more

-- the classes that were set to a channel from a place on: its Class events after its opening
abbrev pub sets_from : ℕ → ℕ → ℕ → List Event → List ClassSet
sets_from at opened id [] = []
sets_from at opened id (event.Open session kind account class lead ∷ more) =
    sets_from (at + 1) (opened + 1) id more
sets_from at opened id (event.Class session channel class ∷ more) =
    (if id == channel && nat_le id opened then record { at = at; class = class } ∷ [] else [])
    ++ sets_from (at + 1) opened id more
sets_from at opened id (event ∷ more) = sets_from (at + 1) opened id more

-- the class of a channel's opening: channel c is the c-th that was opened
abbrev pub opening_class_from : ℕ → ℕ → List Event → Option ℕ
opening_class_from opened id [] = None
opening_class_from opened id (event.Open session kind account class lead ∷ more) =
    if opened + 1 == id then Some class else opening_class_from (opened + 1) id more
opening_class_from opened id (event ∷ more) = opening_class_from opened id more

-- the class of the last set, or else that of the opening
abbrev pub class_of_last : List ClassSet → ℕ → ℕ
class_of_last [] opening = opening
class_of_last (set ∷ more) opening = class_of_last more set.class

-- the class of a channel before a place: that of its last Class event before it, or else of its
-- opening
abbrev pub class_at_place : List Event → ℕ → ℕ → ℕ → ℕ
class_at_place history id since opening =
    class_of_last (filter (λ set. nat_lt set.at since) (sets_from 0 0 id history)) opening

-- an open channel has the class of its opening, and at each place the class that the words say
pub record HasClasses (history : List Event) (channel : OpenChannel) : Type 0 where
  pub opening : opening_class_from 0 channel.id history ≡ Some channel.opening_class
  pub class : (since : ℕ)
      → class_at channel since ≡ class_at_place history channel.id since channel.opening_class

-- so has each open channel of a history
abbrev pub ClassesByPlaces : Type 0
ClassesByPlaces =
    (history : List Event) → AllByRecursion (HasClasses history) (channels_of (past_of history))

-- a number is that of a live job of a miner's own: among the last 16 late ones of some channel
abbrev pub IsOwnLive : List Event → ℕ → Type 0
IsOwnLive history number = (channel : ℕ) × IsTrue (has_number number (own_jobs history channel))

-- a number is that of a live job
abbrev pub IsLive : List Event → ℕ → Type 0
IsLive history number = IsTrue (has_number number (live_jobs history)) ⊎ IsOwnLive history number

-- a number is that of a future job
abbrev pub IsFuture : List Event → ℕ → Type 0
IsFuture history number = IsTrue (has_number number (future_jobs history))

-- the state of a number: a job from 1 to as many as came that is neither future nor live is stale,
-- and every other number is unknown
abbrev pub IsState : JobState → List Event → ℕ → Type 0
IsState state.Future history number = IsFuture history number
IsState state.Live history number = ¬ (IsFuture history number) × IsLive history number
IsState state.Stale history number =
    ¬ (IsFuture history number) × ¬ (IsLive history number) × (1 ≤ number)
    × (number ≤ length (jobs_in history))
IsState state.Unknown history number =
    ¬ (IsFuture history number) × ¬ (IsLive history number)
    × ¬ ((1 ≤ number) × (number ≤ length (jobs_in history)))

-- the state that the recursion gives is the one that the words say
abbrev pub StatesByPlaces : Type 0
StatesByPlaces =
    (history : List Event) (number : ℕ)
    → IsState (state_of (jobs_of (past_of history)) number) history number
