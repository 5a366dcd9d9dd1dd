-- The states of jobs (Stratum V2, "NewTemplate" and "SetNewPrevHash"; how many are kept is this
-- project's own), told by templates, tips and miners' own jobs with their places.
-- Computed on jobs before and after tips, on the seventeenth future one and on miners' own
-- (`Rows`, `OwnJobs`).
use Rattle.std.specs.Prelude.{ℕ, ◌+◌, ◌-◌, ◌==◌, ◌||◌, Bool, true, false, if◌then◌else◌, Option, None, Some, List, [], ◌∷◌, ◌++◌, length, drop, find, nat_lt, filter}
use Rattle.std.specs.List.{list_any}
use Rattle.pool_history.specs.declared.events.Event.{Event}
use Rattle.pool_history.specs.declared.events.Event.TheVariants as event
use Rattle.pool_history.specs.declared.events.JobState.{JobState}
use Rattle.pool_history.specs.declared.events.JobState.TheVariants.{Unknown, Future, Live, Stale}
use Rattle.pool_history.specs.declared.templates.TemplateData.{TemplateData}
use Rattle.pool_history.specs.declared.templates.TipData.{TipData}
use Rattle.pool_history.specs.declared.templates.CustomData.{CustomData}

-- what jobs are told of: events with their places
pub data JobMove : Type 0 where
  Came : (at session : ℕ) (template : TemplateData) → JobMove
  Tipped : (at : ℕ) (tip : TipData) → JobMove
  Brought : (at : ℕ) (custom : CustomData) → JobMove

-- what a job is made from
pub data Source : Type 0 where
  FromTemplate : TemplateData → Source
  FromMiner : CustomData → Source

-- a job: its number, the session that sent its template (0 for a miner's own), the place of its
-- event, the place since which it is live, and what it is made from; live jobs alone say since when:
-- from the tip on that made them live, or from their own event on
pub record Job : Type 0 where
  pub number : ℕ
  pub session : ℕ
  pub at : ℕ
  pub live_at : Option ℕ
  pub source : Source

-- all jobs as they came, those of templates that are future or live, the miners' own that are live,
-- and the last tip
pub record Standing : Type 0 where
  pub all : List Job
  pub future : List Job
  pub live : List Job
  pub custom : List Job
  pub tip : Option TipData

-- the last so many of a list
abbrev pub last : {X : Type 0} → ℕ → List X → List X
last most xs = drop (length xs - most) xs

-- a job is of this template
abbrev pub has_template : ℕ → Source → Bool
has_template id (FromTemplate template) = template.template_id == id
has_template id (FromMiner custom) = false

-- a job is this channel's own
abbrev pub is_own : ℕ → Source → Bool
is_own channel (FromTemplate template) = false
is_own channel (FromMiner custom) = custom.channel_id == channel

-- a job may be mined on by a channel: it is no other channel's own
abbrev pub is_open_to : ℕ → Source → Bool
is_open_to channel (FromTemplate template) = true
is_open_to channel (FromMiner custom) = custom.channel_id == channel

-- the future job of a template
abbrev pub future_in : List Job → ℕ → Option Job
future_in future id = find (λ job. has_template id job.source) future

-- a job that is live since a place
abbrev pub live_from : ℕ → Job → Job
live_from place job = record job { live_at = Some place }

-- a job that is live since its own event
abbrev pub live_at_once : Job → Job
live_at_once job = live_from job.at job

-- the job that a tip made live, if there was one
abbrev pub made_live : ℕ → Option Job → List Job
made_live at None = []
made_live at (Some job) = live_from at job ∷ []

-- without the first of a channel's own
abbrev pub without_first : ℕ → List Job → List Job
without_first channel [] = []
without_first channel (job ∷ jobs) =
    if is_own channel job.source then jobs else job ∷ without_first channel jobs

-- a channel keeps its last sixteen
abbrev pub at_most_sixteen : ℕ → List Job → List Job
at_most_sixteen channel jobs =
    if nat_lt 16 (length (filter (λ job. is_own channel job.source) jobs))
    then without_first channel jobs else jobs

-- a template's job, which is future or live at once
abbrev pub with_template : Job → Bool → Standing → Standing
with_template job true standing =
    record standing {
      all = standing.all
          ++ job ∷ [];
      future = last 16 (standing.future ++ job ∷ []);
    }
with_template job false standing =
    record standing {
      all = standing.all ++ job ∷ [];
      live = last 64 (standing.live ++ live_at_once job ∷ []);
    }

-- a tip makes the future job with its template live, and every other one stale
abbrev pub with_tip : ℕ → TipData → Standing → Standing
with_tip at tip standing =
    record {
      all = standing.all;
      future = [];
      live = made_live at
          (future_in standing.future tip.template_id);
      custom = [];
      tip = Some tip;
    }

-- a miner's own job is live at once
abbrev pub with_custom : Job → ℕ → Standing → Standing
with_custom job channel standing =
    record standing {
      all = standing.all
          ++ job ∷ [];
      custom = at_most_sixteen channel (standing.custom ++ live_at_once job ∷ []);
    }

-- the job of an event: none says yet since when it is live
abbrev pub template_job : ℕ → ℕ → ℕ → TemplateData → Job
template_job number at session template = record {
  number = number;
  session = session;
  at = at;
  live_at = None;
  source = FromTemplate template;
}

abbrev pub custom_job : ℕ → ℕ → CustomData → Job
custom_job number at custom = record {
  number = number;
  session = 0;
  at = at;
  live_at = None;
  source = FromMiner custom;
}

-- one more move
abbrev pub after_move : JobMove → Standing → Standing
after_move (Came at session template) standing =
    with_template (template_job (length standing.all + 1) at session template)
    template.future_template standing
after_move (Tipped at tip) standing = with_tip at tip standing
after_move (Brought at custom) standing =
    with_custom (custom_job (length standing.all + 1) at custom) custom.channel_id standing

-- the jobs after these moves, the last of which stands first
abbrev pub jobs_told : List JobMove → Standing
jobs_told [] = record { all = []; future = []; live = []; custom = []; tip = None }
jobs_told (move ∷ older) = after_move move (jobs_told older)

-- the moves of a history, with the places of its events
abbrev pub job_moves : List Event → List JobMove
job_moves [] = []
job_moves (event.Template session template ∷ older) =
    Came (length older) session template ∷ job_moves older
job_moves (event.Tip session tip ∷ older) = Tipped (length older) tip ∷ job_moves older
job_moves (event.Custom session custom ∷ older) = Brought (length older) custom ∷ job_moves older
job_moves (event.Start rules ∷ older) = job_moves older
job_moves (event.Enter worker role flags ∷ older) = job_moves older
job_moves (event.Open session kind account class lead ∷ older) = job_moves older
job_moves (event.Name session channel account ∷ older) = job_moves older
job_moves (event.Class session channel class ∷ older) = job_moves older
job_moves (event.Close session channel ∷ older) = job_moves older
job_moves (event.Leave session ∷ older) = job_moves older
job_moves (event.Credit session channel job nonce ntime version extranonce ∷ older) = job_moves
    older
job_moves (event.Grant session account fixed path ∷ older) = job_moves older

-- the jobs of a history
abbrev pub jobs_of : List Event → Standing
jobs_of past = jobs_told (job_moves past)

-- the job with a number
abbrev pub job_numbered : ℕ → List Job → Option Job
job_numbered number jobs = find (λ job. job.number == number) jobs

-- whether there is one
abbrev pub has_number : ℕ → List Job → Bool
has_number number jobs = list_any (λ job. job.number == number) jobs

-- the state of a number: stale where there was such a job that is neither future nor live
abbrev pub state_of : Standing → ℕ → JobState
state_of standing number =
    if has_number number standing.future then Future
    else if has_number number standing.live || has_number number standing.custom then Live
    else if has_number number standing.all then Stale
    else Unknown

-- the live job with a number
abbrev pub live_job : Standing → ℕ → Option Job
live_job standing number = job_numbered number (standing.live ++ standing.custom)

-- the last of a list
abbrev pub last_of : {X : Type 0} → List X → Option X
last_of [] = None
last_of (x ∷ []) = Some x
last_of (x ∷ xs) = last_of xs

-- the newest live job of a template
abbrev pub newest : Standing → Option Job
newest standing = last_of standing.live

-- the future job of a template
abbrev pub future_of : Standing → ℕ → Option Job
future_of standing id = future_in standing.future id
