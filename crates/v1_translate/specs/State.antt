-- What a session of Stratum V1 knows, and what it makes of what it hears.
use Rattle.std.specs.Prelude.{ℕ, Option, None, List, [], ◌∷◌}
use Rattle.serde_json.specs.Data.{Data}
use Rattle.pool_history.specs.declared.settings.Rules.{Rules}
use Rattle.v1_lines.specs.declared.errors.V1Error.{V1Error}
use Rattle.v1_lines.specs.Jobs.{NotifyJob, notify_value}
use Rattle.v1_lines.specs.Replies as replies
use Rattle.v1_translate.specs.Heard.{ToldJob}

-- the rules of the pool, and the class whose difficulty is shown as 1 (`v1_base`)
pub record Terms : Type 0 where
  pub rules : Rules
  pub base : ℕ

-- the tip that live jobs are over
pub record Tip : Type 0 where
  pub prev_hash : List ℕ
  pub nbits : ℕ

-- the jobs that are held, the newest first, and the last tip
pub record HeldJobs : Type 0 where
  pub future : List ToldJob
  pub live : List ToldJob
  pub tip : Option Tip

-- a submission that was sent on and isn't answered: its sequence number, and the id of its line
pub record Waiting : Type 0 where
  pub number : ℕ
  pub id : Data

-- an account that was asked for and isn't taken or refused: the id of its line, and the account
pub record Naming : Type 0 where
  pub id : Data
  pub account : List ℕ

pub record V1State : Type 0 where
  -- the bits of a version that the miner said it rolls
  pub mask : ℕ
  -- the id of the last subscribe that was sent on, until it is answered
  pub subscriber : Option Data
  -- the channel, once it is open
  pub channel : Option ℕ
  pub naming : Option Naming
  pub account : Option (List ℕ)
  -- the sequence number of the next submission
  pub sequence : ℕ
  -- the last first
  pub waiting : List Waiting
  pub jobs : HeldJobs

abbrev pub no_jobs : HeldJobs
no_jobs = record { future = []; live = []; tip = None }

-- a session that heard nothing
abbrev pub start : V1State
start =
    record {
      mask = 0;
      subscriber = None;
      channel = None;
      naming = None;
      account = None;
      sequence = 0;
      waiting = [];
      jobs = no_jobs;
    }

-- what is said to the miner: the answer to a request, the error that refuses it, the error that a
-- code of Stratum V2 becomes, and notices
pub data Saying : Type 0 where
  Answer : Data → Data → Saying
  Refusal : Data → V1Error → Saying
  CodeRefusal : Data → List ℕ → Saying
  Difficulty : ℕ → Saying
  Job : NotifyJob → Saying

-- the value of its line
abbrev pub saying_value : Saying → Data
saying_value (Answer id answer) = replies.answer_value id answer
saying_value (Refusal id error) = replies.error_reply id error
saying_value (CodeRefusal id code) = replies.refusal_reply id code
saying_value (Difficulty difficulty) = replies.set_difficulty_value difficulty
saying_value (Job job) = notify_value job

-- a share that is sent on
pub record SentShare : Type 0 where
  pub channel : ℕ
  pub sequence : ℕ
  pub job : ℕ
  pub nonce : ℕ
  pub ntime : ℕ
  pub version : ℕ
  pub extranonce : List ℕ

-- what is asked of the pool: an opening or another target for the channel, by a class; a share; and
-- an account for the channel
pub data Asking : Type 0 where
  Silence : Asking
  Open : ℕ → Asking
  Update : ℕ → ℕ → Asking
  Share : SentShare → Asking
  Name : List ℕ → Asking

pub record Reaction : Type 0 where
  pub after : V1State
  pub says : List Saying
  pub asks : Asking

-- a session that goes on as it was
abbrev pub silent : V1State → Reaction
silent state = record { after = state; says = []; asks = Silence }

abbrev pub saying : V1State → Saying → Reaction
saying state said = record { after = state; says = said ∷ []; asks = Silence }
