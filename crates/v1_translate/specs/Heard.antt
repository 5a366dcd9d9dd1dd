-- What a session of Stratum V1 hears: lines of its miner, messages of the pool (Stratum V2), and
-- whether a name was taken.
use Rattle.std.specs.Prelude.{ℕ, Bool, Option, None, Some, List}
use Rattle.mining_msgs.specs.declared.message.Mining.{Mining}
use Rattle.mining_msgs.specs.declared.message.Mining.TheVariants as messages

-- a channel that is opened: its number, its target, its lead, and how many bytes are rolled
pub record OpenedChannel : Type 0 where
  pub channel : ℕ
  pub target : List ℕ
  pub lead : List ℕ
  pub rolled : ℕ

-- a job's own part: what doesn't change with a tip
pub record ToldJob : Type 0 where
  pub number : ℕ
  pub version : ℕ
  pub path : List (List ℕ)
  pub prefix : List ℕ
  pub suffix : List ℕ

-- the tip that makes a job the one to mine on
pub record ToldTip : Type 0 where
  pub job : ℕ
  pub prev_hash : List ℕ
  pub min_ntime : ℕ
  pub nbits : ℕ

-- what a message says to a session of Stratum V1; the channel isn't looked at, since a session has
-- one
pub data Told : Type 0 where
  Opened : OpenedChannel → Told
  NotOpened : List ℕ → Told
  Target : List ℕ → Told
  Accepted : ℕ → Told
  Refused : ℕ → List ℕ → Told
  Future : ToldJob → Told
  Live : ToldJob → ℕ → Told
  Tipped : ToldTip → Told
  Nothing : Told

-- a job with a time is live, one without is future
abbrev pub told_job : Option ℕ → ToldJob → Told
told_job None job = Future job
told_job (Some min_ntime) job = Live job min_ntime

-- other messages say nothing to it
abbrev pub told_by : Mining → Told
told_by (messages.OpenExtendedMiningChannelSuccess m) =
    Opened (record {
      channel = m.channel_id;
      target = m.target;
      lead = m.extranonce_prefix.now;
      rolled = m.extranonce_size;
    })
told_by (messages.OpenMiningChannelError m) = NotOpened m.error_code.now
told_by (messages.SetTarget m) = Target m.maximum_target
told_by (messages.SubmitSharesSuccess m) = Accepted m.last_sequence_number
told_by (messages.SubmitSharesError m) = Refused m.sequence_number m.error_code.now
told_by (messages.NewExtendedMiningJob m) =
    told_job m.min_ntime
    (record {
      number = m.job_id;
      version = m.version;
      path = m.merkle_path.items.now;
      prefix = m.coinbase_tx_prefix.now;
      suffix = m.coinbase_tx_suffix.now;
    })
told_by (messages.SetNewPrevHash m) =
    Tipped (record {
      job = m.job_id;
      prev_hash = m.prev_hash;
      min_ntime = m.min_ntime;
      nbits = m.nbits;
    })
told_by _ = Nothing

pub data Heard : Type 0 where
  Line : List ℕ → Heard
  Message : Told → Heard
  Named : Bool → Heard
