-- What a script feed does on a network, and what is printed then (this project's own).
use Rattle.std.specs.Prelude.{ℕ, ◌≡◌, Bool, if◌then◌else◌, List, [], ◌∷◌, ◌++◌, Some, Ok, codes}
use Rattle.std.specs.Fmt.{decimal}
use Rattle.std.specs.List.{flat_map}
use Rattle.pool_io.specs.Hosts.{CameBack, HostSeen}
use Rattle.pool_io.specs.Outside.{CountsFailure}
use Rattle.pool_network.specs.declared.network.Reaching.TheVariants as reaching
use Rattle.pool_network.specs.Doors.{TakesBack}
use Rattle.pool_network.specs.Networks.{GivesNext, NetworkSeen, calls_after}
use Rattle.pool_network.specs.Seen.{DoorSeen, LinkSeen}
use Rattle.stream_commands.specs.declared.TheConstants.{IDLE_TURNS}
use Rattle.stream_commands.specs.declared.status.Status.{Status}
use Rattle.stream_commands.specs.declared.status.Status.TheVariants as status
use Rattle.stream_commands.specs.Printing.{PrintsText}
use Rattle.link_turns.specs.declared.talking.TalkEnd.{TalkEnd}
use Rattle.link_turns.specs.declared.talking.TalkEnd.TheVariants as end
use Rattle.link_turns.specs.Talks.{EndedFor, EndsTalk, TakenFor, bounds_of, is_read_fault, is_write_fault}
use Rattle.test_miner.specs.declared.feed.FeedEnd.{FeedEnd}
use Rattle.test_miner.specs.declared.feed.FeedEnd.TheVariants.{Done, BadPeer}
use Rattle.test_miner.specs.declared.feed.Verdict.{Verdict}
use Rattle.test_miner.specs.declared.feed_machine.Feed.{Feed}
use Rattle.test_miner.specs.Feeds.{HasFed, IsFeeding}
use Rattle.test_miner.specs.ScriptValues.{ScriptValue}
use Rattle.peer_commands.specs.Callers.{WaitsForCaller}

-- One door at this address was opened, and came back.
pub record LendsDoor (address : List ℕ) (old new : NetworkSeen) (door door_back : DoorSeen) :
    Type 0 where
  pub opened : GivesNext old.to_open new.to_open (door ∷ [])
  pub lists : CameBack old.doors new.doors (door_back ∷ [])
  pub stays : new ≡ record old {
    calls = new.calls;
    to_open = new.to_open;
    doors = new.doors;
  }
  pub calls : new.calls ≡ calls_after {A = Unit {0}} (reaching.Doors address 1) (Ok tt) old.calls

-- A feed of this script took the turns of a link up to this end, and came to these verdicts. A
-- failure is the end exactly where the link counted it, and is counted once.
pub record FeedsOverLink (script : ScriptValue) (first now : LinkSeen) (reason : TalkEnd FeedEnd)
    (verdicts : List Verdict) : Type 0 where
  pub feed : Feed
  pub talked : EndsTalk (TakenFor (λ (one : Feed). one.ear.course.script) script IsFeeding)
      (EndedFor (λ (one : Feed). one.ear.course.script) script HasFed) (bounds_of IDLE_TURNS) first
      now feed reason
  pub verdicts_are : verdicts ≡ feed.ear.course.verdicts
  pub reads : CountsFailure (is_read_fault (Some reason)) first.source.faults now.source.faults
  pub writes : CountsFailure (is_write_fault (Some reason)) first.sink.faults now.sink.faults

-- the first who called at a door was fed, and the link was handed back
pub record FeedsCaller (script : ScriptValue) (door door_back : DoorSeen) (reason : TalkEnd FeedEnd)
    (verdicts : List Verdict) : Type 0 where
  pub link : LinkSeen
  pub link_back : LinkSeen
  pub busy : DoorSeen
  pub came : WaitsForCaller door busy (Ok link)
  pub feeds : FeedsOverLink script link link_back reason verdicts
  pub back : TakesBack busy door_back link_back

-- what a verdict is called
abbrev pub verdict_word : Bool → List ℕ
verdict_word is_valid = if is_valid then codes " valid\n" else codes " invalid\n"

-- a line for each solution
abbrev pub verdict_line : Verdict → List ℕ
verdict_line verdict = codes "solution " ++ decimal verdict.id ++ verdict_word verdict.is_valid

abbrev pub verdict_lines : List Verdict → List ℕ
verdict_lines verdicts = flat_map verdict_line verdicts

-- what each end is answered with: the lines are printed, but where memory ran out
abbrev pub status_of_feed_end : TalkEnd FeedEnd → Status
status_of_feed_end (end.Ended Done) = status.Done
status_of_feed_end (end.Ended BadPeer) = status.Refused
status_of_feed_end end.IdleOut = status.Limit
status_of_feed_end end.BytesOut = status.Limit
status_of_feed_end end.ReadFault = status.ReadFault
status_of_feed_end end.WriteFault = status.WriteFault
status_of_feed_end end.Memory = status.Memory

abbrev pub FinishesFeeding : TalkEnd FeedEnd → List Verdict → HostSeen → HostSeen → Status → Type 0
FinishesFeeding end.Memory verdicts old new answer = (new ≡ old) × (answer ≡ status.Memory)
FinishesFeeding reason verdicts old new answer =
    PrintsText (verdict_lines verdicts) (status_of_feed_end reason) old new answer
