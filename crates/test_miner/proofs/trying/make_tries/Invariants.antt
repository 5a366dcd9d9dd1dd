use Rattle.std.proofs.Common.{◌≡◌, ◌-◌}
use Rattle.test_miner.specs.Trying.{first_meeting}
use Rattle.test_miner.proofs.trying.make_tries.Given as goal

abbrev pub invariant-loop-made : goal.invariant-loop-made
invariant-loop-made l = first_meeting l.class l.job l.tries l.fn.from ≡ first_meeting l.class l.job (l.tries - l._made) l.next
