-- The jobs of the upstream that a proxy holds, as a session of Stratum V1 holds them, and what a
-- miner is told of them when it subscribes.
use Rattle.std.specs.Prelude.{ℕ, ◌==◌, Bool, true, false, not, if◌then◌else◌, Option, None, Some, List, [], ◌∷◌, ◌++◌, map, is_some, nat_lt, count_by}
use Rattle.std.specs.List.{filter}
use Rattle.v1_translate.specs.Heard.{Told, Future, Tipped, ToldTip, told_job}
use Rattle.v1_translate.specs.Messages.{most_future, most_live}
use Rattle.proxy_rules.specs.State.{RelayedJob}

-- live jobs have a time
abbrev pub is_live : RelayedJob → Bool
is_live job = is_some job.min_ntime

abbrev pub is_of_kind : Bool → RelayedJob → Bool
is_of_kind true job = is_live job
is_of_kind false job = not (is_live job)

abbrev pub most_of_kind : Bool → ℕ
most_of_kind true = most_live
most_of_kind false = most_future

abbrev pub is_job : ℕ → RelayedJob → Bool
is_job number job = job.job.number == number

-- the first job that passes a test goes
abbrev pub without_first : (RelayedJob → Bool) → List RelayedJob → List RelayedJob
without_first test [] = []
without_first test (job ∷ jobs) = if test job then jobs else job ∷ without_first test jobs

-- the oldest of a kind goes where there are too many
abbrev pub limited : Bool → List RelayedJob → List RelayedJob
limited live jobs =
    if nat_lt (most_of_kind live) (count_by (is_of_kind live) jobs)
    then without_first (is_of_kind live) jobs
    else jobs

abbrev pub without : ℕ → List RelayedJob → List RelayedJob
without number jobs = filter (λ job. not (is_job number job)) jobs

abbrev pub only : ℕ → List RelayedJob → List RelayedJob
only number jobs = filter (is_job number) jobs

-- a job behind the others, in place of an older one of its number
abbrev pub with_job : RelayedJob → List RelayedJob → List RelayedJob
with_job job jobs = limited (is_live job) (without job.job.number jobs ++ job ∷ [])

abbrev pub gone_live : ℕ → RelayedJob → RelayedJob
gone_live min_ntime job = record { job = job.job; min_ntime = Some min_ntime }

-- a tip's job alone is left, as a live one
abbrev pub over_tip : ToldTip → List RelayedJob → List RelayedJob
over_tip tip jobs = map (gone_live tip.min_ntime) (only tip.job jobs)

-- ---- what a subscriber is told

abbrev pub job_told : RelayedJob → Told
job_told job = told_job job.min_ntime job.job

abbrev pub future_told : RelayedJob → Told
future_told job = Future job.job

-- the tip's job without its time, the tip, and the other jobs
abbrev pub jobs_told : Option ToldTip → List RelayedJob → List Told
jobs_told None jobs = map job_told jobs
jobs_told (Some tip) jobs =
    map future_told (only tip.job jobs) ++ Tipped tip ∷ map job_told (without tip.job jobs)
