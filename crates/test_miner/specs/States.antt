-- What a miner knows between two frames (this project's own).
use Rattle.std.specs.Prelude.{◌≡◌, ℕ, ◌<◌, ◌≤◌, ◌^◌, Bool, Option, None, List}
use Rattle.mining_msgs.specs.declared.jobs.NewMiningJob.{NewMiningJob}
use Rattle.mining_msgs.specs.declared.jobs.SetNewPrevHash.{SetNewPrevHash}
use Rattle.test_miner.specs.declared.course.MinerEnd.{MinerEnd}
use Rattle.test_miner.specs.declared.trying.CurrentJob.{CurrentJob}
use Rattle.test_miner.specs.declared.trying.Try.{Try}

pub record MinerState : Type 0 where
  -- whether its connection was accepted
  pub is_set_up : Bool
  -- its channel, once it is opened
  pub channel : Option ℕ
  -- all jobs that were sent, the last one last
  pub jobs : List NewMiningJob
  -- the last SetNewPrevHash
  pub tip : Option SetNewPrevHash
  -- the current job, and where its tries go on
  pub current : Option CurrentJob
  pub next_try : Option Try
  -- how many shares were submitted: the next one's sequence number
  pub submitted : ℕ
  -- the sequence number of the submission that waits
  pub waiting : Option ℕ
  -- how many submissions were credited, and how many are wanted
  pub credited : ℕ
  pub wanted : ℕ
  -- how it ended, if it has
  pub end : Option MinerEnd

-- there are 2^32 sequence numbers, and before the end more credits are wanted
pub record IsSoundState (submitted credited wanted : ℕ) (end : Option MinerEnd) : Type 0 where
  pub numbered : submitted ≤ 2 ^ 32
  pub wants : end ≡ None → credited < wanted
