-- `mining.submit`: which shares are sent on, and how.
use Rattle.std.specs.Prelude.{ℕ, ◌+◌, ◌==◌, ◌^◌, ◌%◌, Bool, true, false, if◌then◌else◌, Option, None, Some, Result, Ok, Err, List, [], ◌∷◌, length, bit_or, nat_le, codes, option_map}
use Rattle.std.specs.Option.{option_and_then}
use Rattle.std.specs.Result.{result_ok}
use Rattle.std.specs.Str.{bytes_eq}
use Rattle.hex.specs.Hex.{decode_of}
use Rattle.serde_json.specs.Data.{Data, Items}
use Rattle.serde_json.specs.Find.{as_str, get_item}
use Rattle.pool_base.specs.Results.{◌>>=◌}
use Rattle.pool_history.specs.Accounts.{account_of}
use Rattle.pool_history.specs.Conditions.{found, provided}
use Rattle.pool_history.specs.Judging.{outside}
use Rattle.v1_lines.specs.declared.errors.V1Error.{V1Error}
use Rattle.v1_lines.specs.declared.errors.V1Error.TheVariants.{JobNotFound, MalformedRequest, UnauthorizedWorker}
use Rattle.v1_lines.specs.HexNumbers.{hex_number}
use Rattle.v1_lines.specs.Requests.{text_at}
use Rattle.v1_translate.specs.declared.shares.AskedShare as asked
use Rattle.v1_translate.specs.declared.shares.SentShare as sent
use Rattle.v1_translate.specs.Heard.{ToldJob}
use Rattle.v1_translate.specs.State.{HeldJobs, V1State, Saying, Refusal, CodeRefusal, SentShare, Share, Reaction, saying}

-- a submission as it is asked for: texts, and numbers whose digits were read
pub record AskedShare : Type 0 where
  pub worker : List ℕ
  pub job : List ℕ
  pub extranonce : List ℕ
  pub ntime : ℕ
  pub nonce : ℕ
  pub bits : Option ℕ

-- the number that a text says
abbrev pub number_at : ℕ → Items → Option ℕ
number_at place params = option_and_then hex_number (text_at place params)

-- the bits may be left out
abbrev pub bits_in : Option Data → Option (Option ℕ)
bits_in None = Some None
bits_in (Some value) = option_map (λ bits. Some bits) (option_and_then hex_number (as_str value))

abbrev pub asked_share : Items → Option AskedShare
asked_share params =
    option_and_then (λ worker. option_and_then (λ job. option_and_then (λ extranonce.
    option_and_then (λ ntime. option_and_then (λ nonce. option_map (λ bits.
    record {
      worker = worker;
      job = job;
      extranonce = extranonce;
      ntime = ntime;
      nonce = nonce;
      bits = bits;
    })
    (bits_in (get_item 5 params))) (number_at 4 params)) (number_at 3 params))
    (text_at 2 params)) (text_at 1 params)) (text_at 0 params)

-- why a submission isn't sent on: an error of Stratum V1, or a code of Stratum V2
pub data NotSent : Type 0 where
  ByError : V1Error → NotSent
  ByCode : List ℕ → NotSent

-- the channel has an account, and it is the worker's
abbrev pub works_for : Option (List ℕ) → List ℕ → Bool
works_for None worker = false
works_for (Some account) worker = bytes_eq (account_of worker) account

-- the bytes of an even number of at most 64 digits
abbrev pub extranonce_in : List ℕ → Option (List ℕ)
extranonce_in text = if nat_le (length text) 64 then result_ok (decode_of text) else None

-- no bit is outside of the mask
abbrev pub are_within : ℕ → Option ℕ → Bool
are_within mask None = true
are_within mask (Some bits) = outside mask bits == 0

-- the job of a number, where it is held
abbrev pub job_among : ℕ → List ToldJob → Option ToldJob
job_among number [] = None
job_among number (job ∷ jobs) = if job.number == number then Some job else job_among number jobs

abbrev pub held_job : HeldJobs → ℕ → Option ToldJob
held_job jobs number = first_of (job_among number jobs.live) (job_among number jobs.future) where
  first_of : Option ToldJob → Option ToldJob → Option ToldJob
  first_of (Some job) other = Some job
  first_of None other = other

-- the version of a share: the job's, with the rolled bits in place of those of the mask
abbrev pub rolled_version : ℕ → ℕ → Option ℕ → ℕ
rolled_version version mask None = version
rolled_version version mask (Some bits) = bit_or (outside mask version) bits

-- 0 where the job isn't held
abbrev pub share_version : Option ToldJob → ℕ → Option ℕ → ℕ
share_version None mask bits = 0
share_version (Some job) mask bits = rolled_version job.version mask bits

-- the share that is sent on
abbrev pub share_for : V1State → ℕ → AskedShare → ℕ → List ℕ → SentShare
share_for state channel asked job extranonce =
    record {
      channel = channel;
      sequence = state.sequence;
      job = job;
      nonce = asked.nonce;
      ntime = asked.ntime;
      version = share_version (held_job state.jobs job) state.mask asked.bits;
      extranonce = extranonce;
    }

-- it, or the first reason why it isn't sent on
abbrev pub checked_share : V1State → ℕ → AskedShare → Result SentShare NotSent
checked_share state channel asked = do
  _ ← provided (works_for state.account asked.worker) (ByError UnauthorizedWorker) asked.worker
  job ← found (ByError JobNotFound) (hex_number asked.job)
  extranonce ← found (ByCode (codes "invalid-extranonce-size")) (extranonce_in asked.extranonce)
  _ ← provided (are_within state.mask asked.bits) (ByCode (codes "invalid-version")) extranonce
  Ok (share_for state channel asked job extranonce)

abbrev pub not_sent : Data → NotSent → Saying
not_sent id (ByError error) = Refusal id error
not_sent id (ByCode code) = CodeRefusal id code

-- sequence numbers have 32 bits
abbrev pub next_sequence : ℕ → ℕ
next_sequence sequence = (sequence + 1) % 2 ^ 32

abbrev pub sent_or_refused : V1State → Data → Result SentShare NotSent → Reaction
sent_or_refused state id (Err why) = saying state (not_sent id why)
sent_or_refused state id (Ok share) =
    record {
      after = record state {
        sequence = next_sequence state.sequence;
        waiting = record { number = state.sequence; id = id } ∷ state.waiting;
      };
      says = [];
      asks = Share share;
    }

abbrev pub submitted : V1State → Data → ℕ → Option AskedShare → Reaction
submitted state id channel None = saying state (Refusal id MalformedRequest)
submitted state id channel (Some asked) =
    sent_or_refused state id (checked_share state channel asked)

-- a submission and a share, without where their bytes lie in memory
abbrev pub asked_by : asked.AskedShare → AskedShare
asked_by share =
    record {
      worker = share.worker.now;
      job = share.job.now;
      extranonce = share.extranonce.now;
      ntime = share.ntime;
      nonce = share.nonce;
      bits = share.bits;
    }

abbrev pub share_of : sent.SentShare → SentShare
share_of share =
    record {
      channel = share.channel;
      sequence = share.sequence;
      job = share.job;
      nonce = share.nonce;
      ntime = share.ntime;
      version = share.version;
      extranonce = share.extranonce.now;
    }
