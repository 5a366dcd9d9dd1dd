-- What a test miner does on a network, and what is printed then (this project's own).
use Rattle.std.specs.Prelude.{ℕ, ◌≡◌, List, [], ◌∷◌, Some, Ok, codes}
use Rattle.pool_io.specs.Hosts.{CameBack, HostSeen}
use Rattle.pool_io.specs.Outside.{CountsFailure}
use Rattle.pool_history.specs.Summary.{line}
use Rattle.pool_network.specs.declared.network.Reaching.TheVariants as reaching
use Rattle.pool_network.specs.Networks.{GivesNext, NetworkSeen, calls_after}
use Rattle.pool_network.specs.Seen.{LinkSeen}
use Rattle.stream_commands.specs.declared.TheConstants.{IDLE_TURNS}
use Rattle.stream_commands.specs.declared.status.Status.{Status}
use Rattle.stream_commands.specs.declared.status.Status.TheVariants as status
use Rattle.stream_commands.specs.Printing.{PrintsText}
use Rattle.link_turns.specs.declared.talking.TalkEnd.{TalkEnd}
use Rattle.link_turns.specs.declared.talking.TalkEnd.TheVariants as end
use Rattle.link_turns.specs.Talks.{EndedFor, EndsTalk, TakenFor, bounds_of, is_read_fault, is_write_fault}
use Rattle.test_miner.specs.declared.course.MinerEnd.{MinerEnd}
use Rattle.test_miner.specs.declared.course.MinerEnd.TheVariants.{Mined, Ended}
use Rattle.test_miner.specs.declared.miner.Miner.{Miner}
use Rattle.test_miner.specs.declared.miner.MinerTask.{MinerTask}
use Rattle.test_miner.specs.Miners.{HasMined, IsMining}

-- A link to the peer at this address was given, and came back.
pub record LendsLink (address : List ℕ) (old new : NetworkSeen) (link link_back : LinkSeen) :
    Type 0 where
  pub dialled : GivesNext old.to_dial new.to_dial (link ∷ [])
  pub links : CameBack old.links new.links link_back
  pub stays : new ≡ record old {
    calls = new.calls;
    to_dial = new.to_dial;
    links = new.links;
  }
  pub calls : new.calls ≡ calls_after {A = Unit {0}} (reaching.Dial address) (Ok tt) old.calls

-- A test miner was asked for this, and took the turns of a link up to this end. A failure is the end
-- exactly where the link counted it, and is counted once.
pub record MinesOverLink (task : MinerTask) (first now : LinkSeen) (reason : TalkEnd MinerEnd) :
    Type 0 where
  pub miner : Miner
  pub talked : EndsTalk (TakenFor (λ (one : Miner). one.task) task IsMining)
      (EndedFor (λ (one : Miner). one.task) task HasMined) (bounds_of IDLE_TURNS) first now miner
      reason
  pub reads : CountsFailure (is_read_fault (Some reason)) first.source.faults now.source.faults
  pub writes : CountsFailure (is_write_fault (Some reason)) first.sink.faults now.sink.faults

-- how many submissions were credited
abbrev pub mined_text : ℕ → List ℕ
mined_text count = line (codes "mined") count

-- what each end is answered with: it is told where the miner itself came to it
abbrev pub FinishesMining : TalkEnd MinerEnd → HostSeen → HostSeen → Status → Type 0
FinishesMining (end.Ended (Mined count)) old new answer =
    PrintsText (mined_text count) status.Done old new answer
FinishesMining (end.Ended (Ended count)) old new answer =
    PrintsText (mined_text count) status.Refused old new answer
FinishesMining end.IdleOut old new answer = (new ≡ old) × (answer ≡ status.Limit)
FinishesMining end.BytesOut old new answer = (new ≡ old) × (answer ≡ status.Limit)
FinishesMining end.ReadFault old new answer = (new ≡ old) × (answer ≡ status.ReadFault)
FinishesMining end.WriteFault old new answer = (new ≡ old) × (answer ≡ status.WriteFault)
FinishesMining end.Memory old new answer = (new ≡ old) × (answer ≡ status.Memory)
