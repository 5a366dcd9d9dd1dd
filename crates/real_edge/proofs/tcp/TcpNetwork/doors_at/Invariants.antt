use Rattle.std.proofs.Common.{◌-◌, ◌≤◌, vec_len}
use Rattle.real_edge.proofs.tcp.TcpNetwork.doors_at.Given as goal

-- no more doors than are asked for
abbrev pub invariant-loop-listener : goal.invariant-loop-listener
invariant-loop-listener g l = vec_len l.doors ≤ l.count

-- one door more each time
abbrev pub decreases-loop-listener : goal.decreases-loop-listener
decreases-loop-listener g l = l.count - vec_len l.doors
