-- What a proxy knows: one channel of an upstream (Stratum V2), and the miners of Stratum V1 that
-- share it.
use Rattle.std.specs.Prelude.{ℕ, Bool, true, Option, None, List, []}
use Rattle.serde_json.specs.Data.{Data}
use Rattle.v1_translate.specs.Heard.{OpenedChannel, ToldJob, ToldTip}
use Rattle.v1_translate.specs.State.{Terms, V1State}

-- a job of the upstream that is held, and its time; a future job has none
pub record RelayedJob : Type 0 where
  pub job : ToldJob
  pub min_ntime : Option ℕ

-- what a subscribe gives: a lead of the upstream's channel, and how many bytes are rolled behind it
pub record Seat : Type 0 where
  pub lead : ℕ
  pub channel : ℕ
  pub rolled : ℕ

-- a miner that is joined: what its subscribe gave, and what it is as a session of Stratum V1
pub record Session : Type 0 where
  pub seat : Option Seat
  pub v1 : V1State

-- a caller that has joined: all that was written to it since it last did, and its session until it
-- leaves
pub record Miner : Type 0 where
  pub caller : ℕ
  pub output : List ℕ
  pub session : Option Session

-- a submission that went upstream and waits: its sequence number there, whose it is, and the id of
-- its line
pub record SentOn : Type 0 where
  pub number : ℕ
  pub caller : ℕ
  pub id : Data

pub record Relay : Type 0 where
  -- for whom the channel is opened, and the class whose difficulty is shown as 1
  pub user : List ℕ
  pub base : ℕ
  -- whether the opening was asked for
  pub is_set_up : Bool
  -- the first channel that was opened, with the last target
  pub opened : Option OpenedChannel
  -- the jobs that are held, the oldest first, and the last tip
  pub jobs : List RelayedJob
  pub tip : Option ToldTip
  pub is_ended : Bool
  -- how many submissions went upstream, and those of miners still joined that wait, the oldest first
  pub sent : ℕ
  pub waiting : List SentOn
  pub miners : List Miner
  -- all that was written upstream
  pub output : List ℕ

-- miners may roll all bits that anybody may, and each account is known
abbrev pub terms_of : ℕ → Terms
terms_of base =
    record {
      rules = record {
        pool_script = [];
        least_class = 0;
        fee = 0;
        window = None;
        ntime_window = 0;
        credit_limit = 0;
        version_rolling = true;
        users = [];
      };
      base = base;
    }
