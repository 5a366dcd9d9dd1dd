use denote.Param.Send.{IsSend, IsSync, sendable}
use Rattle.std.proofs.Crossing.{crosses}
use denote.Builtin.{u64}
use Rattle.session_trials.specs.contracts.counter.Counter as Counter
use Rattle.session_trials.specs.contracts.counter.Broken as Broken
use Rattle.session_trials.specs.contracts.counter.CounterMachine.TheImpl.{ghosts}
use Rattle.desk.specs.contracts.desk.Desk as Desk
use Rattle.desk.specs.contracts.pass.Pass as Pass
use Rattle.desk.proofs.Crossing.{desk_sync, pass_send}
use Rattle.session_trials.proofs.counter.add_in_two_threads.Goals as goal

counter_send : IsSend Counter.the_row
counter_send = search (sendable, crosses) depth 40

desk_shared : IsSync (Desk.the_row Counter.the_row u64 u64 u64 Broken.the_row ghosts)
desk_shared = desk_sync Counter.the_row u64 u64 u64 Broken.the_row ghosts counter_send

pass_sent : IsSend (Pass.the_row Counter.the_row u64 u64 u64 Broken.the_row ghosts)
pass_sent = pass_send Counter.the_row u64 u64 u64 Broken.the_row ghosts counter_send

pub join-requires-send-F : goal.join-requires-send-F
join-requires-send-F g c κs within = search (sendable, desk_shared, pass_sent) depth 60

pub join-requires-send-A : goal.join-requires-send-A
join-requires-send-A g c κs within = search (sendable, pass_sent) depth 60
