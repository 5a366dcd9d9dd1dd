-- What `mine ADDRESS USER CLASS COUNT` owes at each status (this project's own).
use Rattle.std.specs.Prelude.{ℕ, ◌≡◌, ◌⊎◌, List}
use Rattle.pool_io.specs.declared.host.HostError.{HostError}
use Rattle.pool_network.specs.declared.network.Reaching.TheVariants as reaching
use Rattle.pool_network.specs.Networks.{IsRefusedReaching}
use Rattle.pool_network.specs.Seen.{LinkSeen}
use Rattle.pool_network.specs.Worlds.{WorldSeen}
use Rattle.stream_commands.specs.declared.status.Status.{Status}
use Rattle.stream_commands.specs.Statuses.{status_of_refusal}
use Rattle.link_turns.specs.declared.talking.TalkEnd.{TalkEnd}
use Rattle.test_miner.specs.declared.course.MinerEnd.{MinerEnd}
use Rattle.test_miner.specs.declared.miner.MinerTask.{MinerTask}
use Rattle.peer_commands.specs.Mining.{FinishesMining, LendsLink, MinesOverLink}

-- a link was given, a miner had its talk over it, the link came back, and then the output was asked
-- for, where there was something to print
pub record MinesOnNetwork (address : List ℕ) (task : MinerTask) (old new : WorldSeen)
    (answer : Status) : Type 0 where
  pub link : LinkSeen
  pub link_back : LinkSeen
  pub reason : TalkEnd MinerEnd
  pub lends : LendsLink address old.network new.network link link_back
  pub mines : MinesOverLink task link link_back reason
  pub finishes : FinishesMining reason old.host new.host answer

-- no link was given, or memory ran out before
pub record HasNoPeer (address : List ℕ) (old new : WorldSeen) (answer : Status) : Type 0 where
  pub error : HostError
  pub told : answer ≡ status_of_refusal error
  pub refused : IsRefusedReaching (reaching.Dial address) old.network new.network error
  pub host : new.host ≡ old.host

-- the row of `mine ADDRESS USER CLASS COUNT`
abbrev pub MineRow : List ℕ → MinerTask → WorldSeen → WorldSeen → Status → Type 0
MineRow address task old new answer =
    MinesOnNetwork address task old new answer ⊎ HasNoPeer address old new answer
