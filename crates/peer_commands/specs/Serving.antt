-- What is done at a door (this project's own).
use Rattle.std.specs.Prelude.{List, Result, Ok, Err}
use Rattle.pool_network.specs.Seen.{DoorSeen}
use Rattle.link_turns.specs.declared.talking.TalkEnd.{TalkEnd}
use Rattle.test_miner.specs.declared.feed.FeedEnd.{FeedEnd}
use Rattle.test_miner.specs.declared.feed.Verdict.{Verdict}
use Rattle.test_miner.specs.ScriptValues.{ScriptValue}
use Rattle.peer_commands.specs.declared.caller.NoCaller.{NoCaller}
use Rattle.peer_commands.specs.Callers.{WaitsForCaller}
use Rattle.peer_commands.specs.Feeding.{FeedsCaller}

-- the first caller was fed, or nobody was let in
abbrev pub ServesFirst : ScriptValue → DoorSeen → DoorSeen → List Verdict
    → Result (TalkEnd FeedEnd) NoCaller → Type 0
ServesFirst script old new verdicts (Ok reason) = FeedsCaller script old new reason verdicts
ServesFirst script old new verdicts (Err cause) = WaitsForCaller old new (Err cause)
