use Rattle.std.proofs.Common.{◌≡◌, ◌++◌}
use Rattle.load_command.specs.Frames.{openings_frames}
use Rattle.load_command.proofs.generated.put_openings.Given as goal

abbrev pub invariant-loop-number : goal.invariant-loop-number
invariant-loop-number l = l.out.items ≡ l.initial.out.items ++ openings_frames l.number
