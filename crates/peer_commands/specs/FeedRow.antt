-- What `feed SCRIPT ADDRESS` owes at each status (this project's own).
use Rattle.std.specs.Prelude.{ℕ, ◌≡◌, List, Result, Ok, Err}
use Rattle.pool_io.specs.Hosts.{HostSeen}
use Rattle.pool_network.specs.declared.network.Reaching.TheVariants as reaching
use Rattle.pool_network.specs.Networks.{IsRefusedReaching, NetworkSeen}
use Rattle.pool_network.specs.Seen.{DoorSeen}
use Rattle.pool_network.specs.Worlds.{WorldSeen}
use Rattle.stream_commands.specs.declared.status.Status.{Status}
use Rattle.stream_commands.specs.Statuses.{status_of_refusal}
use Rattle.test_miner.specs.declared.feed.Verdict.{Verdict}
use Rattle.test_miner.specs.ScriptValues.{ScriptValue}
use Rattle.peer_commands.specs.declared.script.NoScript.{NoScript}
use Rattle.peer_commands.specs.declared.serving.Fed.{Fed}
use Rattle.peer_commands.specs.declared.serving.Fed.TheVariants as fed
use Rattle.peer_commands.specs.Callers.{WaitsForCaller, status_of_no_caller}
use Rattle.peer_commands.specs.Feeding.{FeedsCaller, FinishesFeeding, LendsDoor}
use Rattle.peer_commands.specs.Opened.{OpensScript, status_of_no_script}

-- what was done at an address: a caller was fed; nobody called; or no door was opened
abbrev pub FeedsAtAddress :
    ScriptValue → List ℕ → NetworkSeen → NetworkSeen → Fed → List Verdict → Type 0
FeedsAtAddress script address old new (fed.Caller reason) verdicts =
    (door : DoorSeen) × (door_back : DoorSeen) × LendsDoor address old new door door_back
    × FeedsCaller script door door_back reason verdicts
FeedsAtAddress script address old new (fed.Nobody cause) verdicts =
    (door : DoorSeen) × (door_back : DoorSeen) × LendsDoor address old new door door_back
    × WaitsForCaller door door_back (Err cause)
FeedsAtAddress script address old new (fed.NoDoor error) verdicts =
    IsRefusedReaching (reaching.Doors address 1) old new error

-- what follows on that
abbrev pub FinishesAtAddress : Fed → List Verdict → HostSeen → HostSeen → Status → Type 0
FinishesAtAddress (fed.Caller reason) verdicts old new answer =
    FinishesFeeding reason verdicts old new answer
FinishesAtAddress (fed.Nobody cause) verdicts old new answer =
    (new ≡ old) × (answer ≡ status_of_no_caller cause)
FinishesAtAddress (fed.NoDoor error) verdicts old new answer =
    (new ≡ old) × (answer ≡ status_of_refusal error)

-- what follows on the reading of a script: a door is opened, the first caller is fed, the door comes
-- back, and then the output is asked for, where there was a caller
abbrev pub FeedsAfterScript :
    List ℕ → Result ScriptValue NoScript → WorldSeen → WorldSeen → Status → Type 0
FeedsAfterScript address (Ok script) old new answer =
    (reached : Fed) × (verdicts : List Verdict)
    × FeedsAtAddress script address old.network new.network reached verdicts
    × FinishesAtAddress reached verdicts old.host new.host answer
FeedsAfterScript address (Err cause) old new answer =
    (new ≡ old) × (answer ≡ status_of_no_script cause)

-- the row of `feed SCRIPT ADDRESS`
pub record FeedRow (script_name address : List ℕ) (old new : WorldSeen) (answer : Status) :
    Type 0 where
  pub script : Result ScriptValue NoScript
  pub read : HostSeen
  pub opens : OpensScript script_name old.host read script
  pub feeds : FeedsAfterScript address script (record { host = read; network = old.network }) new
      answer
