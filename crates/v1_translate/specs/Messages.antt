-- What a session makes of a message of the pool, and of the answer to a name.
use Rattle.std.specs.Prelude.{ℕ, ◌==◌, Bool, true, false, not, if◌then◌else◌, Option, None, Some, List, [], ◌∷◌, ◌++◌, take, codes}
use Rattle.std.specs.List.{filter}
use Rattle.serde_json.specs.Data.{Data, array, number, string, unsigned}
use Rattle.serde_json.specs.View.{items_of}
use Rattle.v1_lines.specs.declared.errors.V1Error.TheVariants.{UnauthorizedWorker}
use Rattle.v1_lines.specs.Jobs.{hex_value}
use Rattle.v1_translate.specs.Difficulty.{difficulty_of}
use Rattle.v1_translate.specs.Heard.{Told, Opened, NotOpened, Target, Accepted, Refused, Future, Live, Tipped, Nothing, ToldJob, ToldTip, Heard, Line, Message, Named}
use Rattle.v1_translate.specs.Lines.{line_reaction, yes}
use Rattle.v1_translate.specs.State.{Terms, V1State, HeldJobs, Tip, Waiting, Naming, Saying, Answer, Refusal, CodeRefusal, Difficulty, Job, Silence, Reaction, saying, silent}
use Rattle.v1_translate.specs.Submitting.{held_job}

-- a notice that is subscribed to, under the lead
abbrev pub notice_of : List ℕ → List ℕ → Data
notice_of method lead = array (items_of (string method ∷ hex_value lead ∷ []))

-- the answer to a subscribe: what is subscribed to, the lead, and how many bytes are rolled
abbrev pub subscription_value : List ℕ → ℕ → Data
subscription_value lead rolled =
    array (items_of (
    array (items_of (
    notice_of (codes "mining.set_difficulty") lead ∷ notice_of (codes "mining.notify") lead ∷ []))
    ∷ hex_value lead ∷ number (unsigned rolled) ∷ []))

-- what is said to the last subscribe, where it isn't answered
abbrev pub to_subscriber : Option Data → (Data → Saying) → List Saying
to_subscriber None said = []
to_subscriber (Some id) said = said id ∷ []

-- the answer for the last submission with a number
abbrev pub answered : ℕ → List Waiting → Option Data
answered sequence [] = None
answered sequence (share ∷ waiting) =
    if share.number == sequence then Some share.id else answered sequence waiting

abbrev pub still_waiting : ℕ → List Waiting → List Waiting
still_waiting sequence [] = []
still_waiting sequence (share ∷ waiting) =
    if share.number == sequence then waiting else share ∷ still_waiting sequence waiting

abbrev pub share_answered : V1State → ℕ → (Data → Saying) → Reaction
share_answered state sequence said =
    record {
      after = record state { waiting = still_waiting sequence state.waiting };
      says = to_subscriber (answered sequence state.waiting) said;
      asks = Silence;
    }

-- how many jobs of a kind are held at most
abbrev pub most_future : ℕ
most_future = 16

abbrev pub most_live : ℕ
most_live = 64

-- the jobs but the one of a number
abbrev pub without : ℕ → List ToldJob → List ToldJob
without gone jobs = filter (λ job. not (job.number == gone)) jobs

-- a job with the newest, in place of an older one of its number; the oldest go
abbrev pub with_future : ToldJob → HeldJobs → HeldJobs
with_future job jobs =
    record {
      future = take most_future (job ∷ without job.number jobs.future);
      live = without job.number jobs.live;
      tip = jobs.tip;
    }

abbrev pub with_live : ToldJob → HeldJobs → HeldJobs
with_live job jobs =
    record {
      future = without job.number jobs.future;
      live = take most_live (job ∷ without job.number jobs.live);
      tip = jobs.tip;
    }

-- a tip's job alone is left, as the live one
abbrev pub alone : Option ToldJob → List ToldJob
alone None = []
alone (Some job) = job ∷ []

abbrev pub over_tip : ToldTip → HeldJobs → HeldJobs
over_tip tip jobs =
    record {
      future = [];
      live = alone (held_job jobs tip.job);
      tip = Some (record { prev_hash = tip.prev_hash; nbits = tip.nbits });
    }

-- the jobs that are held after a message
abbrev pub jobs_after : HeldJobs → Told → HeldJobs
jobs_after jobs (Future job) = with_future job jobs
jobs_after jobs (Live job min_ntime) = with_live job jobs
jobs_after jobs (Tipped tip) = over_tip tip jobs
jobs_after jobs _ = jobs

abbrev pub notified : ToldJob → Tip → ℕ → Bool → Saying
notified job tip min_ntime clean_jobs =
    Job (record {
      job_id = job.number;
      prev_hash = tip.prev_hash;
      prefix = job.prefix;
      suffix = job.suffix;
      path = job.path;
      version = job.version;
      nbits = tip.nbits;
      min_ntime = min_ntime;
      clean_jobs = clean_jobs;
    })

-- a live job is told where there is a tip
abbrev pub live_notice : ToldJob → ℕ → Option Tip → List Saying
live_notice job min_ntime None = []
live_notice job min_ntime (Some tip) = notified job tip min_ntime false ∷ []

-- a tip is told where its job is held
abbrev pub tip_notice : ToldTip → Option ToldJob → List Saying
tip_notice tip None = []
tip_notice tip (Some job) =
    notified job (record { prev_hash = tip.prev_hash; nbits = tip.nbits }) tip.min_ntime true ∷ []

abbrev pub job_notices : HeldJobs → Told → List Saying
job_notices jobs (Live job min_ntime) = live_notice job min_ntime jobs.tip
job_notices jobs (Tipped tip) = tip_notice tip (held_job jobs tip.job)
job_notices jobs _ = []

abbrev pub jobs_told : V1State → Told → Reaction
jobs_told state told =
    record {
      after = record state { jobs = jobs_after state.jobs told };
      says = job_notices state.jobs told;
      asks = Silence;
    }

unfoldable pub message_reaction : Terms → V1State → Told → Reaction
message_reaction terms state (Opened opened) =
    record {
      after = record state { subscriber = None; channel = Some opened.channel };
      says = to_subscriber state.subscriber
          (λ id. Answer id (subscription_value opened.lead opened.rolled))
          ++ Difficulty (difficulty_of terms.base opened.target) ∷ [];
      asks = Silence;
    }
message_reaction terms state (NotOpened code) =
    record {
      after = record state { subscriber = None };
      says = to_subscriber state.subscriber (λ id. CodeRefusal id code);
      asks = Silence;
    }
message_reaction terms state (Target target) =
    saying state (Difficulty (difficulty_of terms.base target))
message_reaction terms state (Accepted sequence) =
    share_answered state sequence (λ id. Answer id yes)
message_reaction terms state (Refused sequence code) =
    share_answered state sequence (λ id. CodeRefusal id code)
message_reaction terms state (Future job) = jobs_told state (Future job)
message_reaction terms state (Live job min_ntime) = jobs_told state (Live job min_ntime)
message_reaction terms state (Tipped tip) = jobs_told state (Tipped tip)
message_reaction terms state Nothing = silent state

-- the account that was asked for becomes the channel's
abbrev pub account_named : V1State → Naming → Bool → Reaction
account_named state naming true =
    saying (record state { naming = None; account = Some naming.account }) (Answer naming.id yes)
account_named state naming false =
    saying (record state { naming = None }) (Refusal naming.id UnauthorizedWorker)

abbrev pub name_answered : V1State → Option Naming → Bool → Reaction
name_answered state None named = silent state
name_answered state (Some naming) named = account_named state naming named

unfoldable pub name_reaction : V1State → Bool → Reaction
name_reaction state named = name_answered state state.naming named

-- what a session makes of anything that it hears
abbrev pub reaction : Terms → V1State → Heard → Reaction
reaction terms state (Line line) = line_reaction terms state line
reaction terms state (Message told) = message_reaction terms state told
reaction terms state (Named named) = name_reaction state named
