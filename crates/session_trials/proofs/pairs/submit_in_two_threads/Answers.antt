use denote.Param.Send.{sendable}
use Rattle.session_trials.proofs.Crossing.{sure_desk_sync, sure_pass_send}
use Rattle.session_trials.proofs.pairs.submit_in_two_threads.Goals as goal

pub join-requires-send-F : goal.join-requires-send-F
join-requires-send-F g c κs within = search (sendable, sure_desk_sync, sure_pass_send) depth 60

pub join-requires-send-A : goal.join-requires-send-A
join-requires-send-A g c κs within = search (sendable, sure_pass_send) depth 60
