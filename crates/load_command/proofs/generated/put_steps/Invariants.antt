use Rattle.std.proofs.Common.{◌≡◌, ◌++◌}
use Rattle.load_command.specs.Frames.{generator_after, steps_frames}
use Rattle.load_command.proofs.generated.put_steps.Given as goal

abbrev pub invariant-loop-step : goal.invariant-loop-step
invariant-loop-step l =
    (l.out.items ≡ l.fn.out.items ++ steps_frames l.number l.step) × (l.generator ≡ generator_after l.number l.step)
