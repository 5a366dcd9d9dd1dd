-- `mining.notify`: a job, as a miner is told of it (Stratum V1).
use Rattle.std.specs.Prelude.{ℕ, Bool, List, [], ◌∷◌, ◌++◌, codes, map}
use Rattle.hex.specs.Hex.{encode_lower}
use Rattle.serde_json.specs.View.{items_of}
use Rattle.serde_json.specs.Data.{Data, boolean, string, array}
use Rattle.v1_lines.specs.declared.notices.NotifiedJob.{NotifiedJob}
use Rattle.v1_lines.specs.HexNumbers.{number_text, word_text}
use Rattle.v1_lines.specs.Replies.{notice_value}

-- a job, without where its bytes lie in memory
pub record NotifyJob : Type 0 where
  pub job_id : ℕ
  pub prev_hash : List ℕ
  pub prefix : List ℕ
  pub suffix : List ℕ
  pub path : List (List ℕ)
  pub version : ℕ
  pub nbits : ℕ
  pub min_ntime : ℕ
  pub clean_jobs : Bool

abbrev pub hex_value : List ℕ → Data
hex_value bytes = string (encode_lower bytes)

abbrev pub word_value : ℕ → Data
word_value word = string (word_text word)

-- the bytes of each word of four reversed
abbrev pub swapped_words : List ℕ → List ℕ
swapped_words (a ∷ b ∷ c ∷ d ∷ bytes) = d ∷ c ∷ b ∷ a ∷ swapped_words bytes
swapped_words bytes = bytes

-- what comes before the merkle branch
abbrev pub params_before : NotifyJob → List Data
params_before job =
    string (number_text job.job_id) ∷ hex_value (swapped_words job.prev_hash)
    ∷ hex_value job.prefix ∷ hex_value job.suffix ∷ []

-- and what comes behind it
abbrev pub params_behind : NotifyJob → List Data
params_behind job =
    word_value job.version ∷ word_value job.nbits ∷ word_value job.min_ntime
    ∷ boolean job.clean_jobs ∷ []

abbrev pub notify_params : NotifyJob → List Data
notify_params job =
    params_before job ++ array (items_of (map hex_value job.path)) ∷ params_behind job

abbrev pub notify_value : NotifyJob → Data
notify_value job = notice_value (codes "mining.notify") (array (items_of (notify_params job)))

abbrev pub job_of : NotifiedJob → NotifyJob
job_of job =
    record {
      job_id = job.job_id;
      prev_hash = job.prev_hash.now;
      prefix = job.prefix.now;
      suffix = job.suffix.now;
      path = job.path.now;
      version = job.version;
      nbits = job.nbits;
      min_ntime = job.min_ntime;
      clean_jobs = job.clean_jobs;
    }
