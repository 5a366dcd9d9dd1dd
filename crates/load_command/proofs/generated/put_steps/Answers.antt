use Rattle.std.proofs.Common.{◌∙◌, ap, sym, append-nil}
use Rattle.rand_pcg.specs.Pcg.{pcg32}
use Rattle.load_command.specs.Frames.{generator_after, steps_frames}
use Rattle.load_command.proofs.Steps.{drawn-more, stepped-more}
use Rattle.load_command.proofs.generated.put_steps.Goals as goal

pub loop-step-init : goal.loop-step-init
unfolding steps_frames generator_after
loop-step-init c = (sym (append-nil _), c.new-generator.ensures)

pub loop-step-preserved : goal.loop-step-preserved
loop-step-preserved c = (
  stepped-more _ _ _ c.args.number c.loop-step.step c.next_word-random.result c.loop-step.invariant.0
      (ap (λ p. p.0) c.next_word-random.ensures ∙ ap (λ g. (pcg32 g).0) c.loop-step.invariant.1) c.in_ok-put_step.ensures,
  drawn-more c.args.number c.loop-step.step _ _ c.loop-step.invariant.1 (ap (λ p. p.1) c.next_word-random.ensures),
)
