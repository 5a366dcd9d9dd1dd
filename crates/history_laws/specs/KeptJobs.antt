-- What has to be kept of jobs (this project's own): how many there are, whose each miner's own job
-- is, the future and live ones whole, and the tip. Each move and each reader of the jobs goes
-- through it, so stale templates needn't be kept.
use Rattle.std.specs.Prelude.{◌≡◌, ℕ, ◌+◌, ◌==◌, ◌&&◌, ◌||◌, Bool, true, false, not, if◌then◌else◌, Option, Some, List, [], ◌∷◌, ◌++◌, length, nat_le}
use Rattle.std.specs.List.{flat_map, list_any}
use Rattle.pool_history.specs.declared.events.Event.{Event}
use Rattle.pool_history.specs.declared.events.Event.TheVariants as event
use Rattle.pool_history.specs.declared.events.JobState.{JobState}
use Rattle.pool_history.specs.declared.events.JobState.TheVariants.{Unknown, Future, Live, Stale}
use Rattle.pool_history.specs.declared.templates.TemplateData.{TemplateData}
use Rattle.pool_history.specs.declared.templates.TipData.{TipData}
use Rattle.pool_history.specs.Jobs.{Came, Tipped, Brought, Job, JobMove, Source, FromTemplate, FromMiner, Standing, after_move, at_most_sixteen, custom_job, future_in, has_number, job_numbered, jobs_of, last, last_of, live_at_once, made_live, state_of, template_job}
use Rattle.pool_history.specs.Judging.{Share, is_known_job, is_known_state, is_mineable}
use Rattle.pool_history.specs.Sessions.{past_of}

-- the number of a miner's own job, and the channel that it is for
pub record OwnJob : Type 0 where
  pub number : ℕ
  pub channel : ℕ

-- what is kept
pub record KeptJobs : Type 0 where
  pub count : ℕ
  pub own : List OwnJob
  pub future : List Job
  pub live : List Job
  pub custom : List Job
  pub tip : Option TipData

-- a miner's own job among these
abbrev pub own_of : ℕ → Source → List OwnJob
own_of number (FromTemplate template) = []
own_of number (FromMiner custom) = record { number = number; channel = custom.channel_id } ∷ []

-- what is kept of the jobs
abbrev pub kept_jobs_of : Standing → KeptJobs
kept_jobs_of standing = record {
  count = length standing.all;
  own = flat_map (λ job. own_of job.number job.source) standing.all;
  future = standing.future;
  live = standing.live;
  custom = standing.custom;
  tip = standing.tip;
}

-- a template's job, which is future or live at once
abbrev pub keeping_template : Job → Bool → KeptJobs → KeptJobs
keeping_template job true kept =
    record kept { count = kept.count + 1; future = last 16 (kept.future ++ job ∷ []) }
keeping_template job false kept =
    record kept {
      count = kept.count + 1;
      live = last 64 (kept.live ++ live_at_once job ∷ []);
    }

-- one more move
abbrev pub kept_after : JobMove → KeptJobs → KeptJobs
kept_after (Came at session template) kept =
    keeping_template
    (template_job (kept.count + 1) at session template) template.future_template kept
kept_after (Tipped at tip) kept =
    record kept {
      future = [];
      live = made_live at
          (future_in kept.future tip.template_id);
      custom = [];
      tip = Some tip;
    }
kept_after (Brought at custom) kept = record kept {
  count = kept.count + 1;
  own = kept.own ++ record { number = kept.count + 1; channel = custom.channel_id } ∷ [];
  custom = at_most_sixteen custom.channel_id
      (kept.custom ++ live_at_once (custom_job (kept.count + 1) at custom) ∷ []);
}

-- what is kept after a move is told by what was kept before it
abbrev pub KeptJobsMove : Type 0
KeptJobsMove =
    (move : JobMove) (standing : Standing)
    → kept_jobs_of (after_move move standing) ≡ kept_after move (kept_jobs_of standing)

-- a number is that of a job
abbrev pub is_number_of : KeptJobs → ℕ → Bool
is_number_of kept number = nat_le 1 number && nat_le number kept.count

-- the state of a number
abbrev pub state_by : KeptJobs → ℕ → JobState
state_by kept number =
    if has_number number kept.future then Future
    else if has_number number kept.live || has_number number kept.custom then Live
    else if is_number_of kept number then Stale
    else Unknown

-- a number is that of another channel's own job
abbrev pub is_others : ℕ → ℕ → OwnJob → Bool
is_others channel number own = own.number == number && not (own.channel == channel)

-- a channel may mine on the job with a number: there is one, and it is no other channel's own
abbrev pub is_mineable_by : KeptJobs → ℕ → ℕ → Bool
is_mineable_by kept channel number =
    is_number_of kept number && not (list_any (is_others channel number) kept.own)

-- what is read of the jobs is read of what is kept; what is read besides these is one of the lists
-- that are kept whole, the tip or the count
pub record ReadsTheKept (history : List Event) (standing : Standing) : Type 0 where
  pub state : (number : ℕ) → state_of standing number ≡ state_by (kept_jobs_of standing) number
  pub mineable : (channel number : ℕ)
      → is_mineable channel (job_numbered number standing.all)
      ≡ is_mineable_by (kept_jobs_of standing) channel number
  pub known : (share : Share)
      → is_known_job standing share
      ≡ (is_known_state (state_by (kept_jobs_of standing) share.job)
      && is_mineable_by (kept_jobs_of standing) share.channel share.job)
  pub newest_came : (session : ℕ) (template : TemplateData)
      → last_of (jobs_of (past_of (history ++ event.Template session template ∷ []))).all
      ≡ Some (template_job ((kept_jobs_of standing).count + 1) (length history) session template)

-- so it is with the jobs of each history
abbrev pub KeptJobsSuffice : Type 0
KeptJobsSuffice = (history : List Event) → ReadsTheKept history (jobs_of (past_of history))
