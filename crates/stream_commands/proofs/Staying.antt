-- Answers of a source that leave its turns as they are: the end of the input, and a failure.
use Rattle.std.proofs.Common.{◌≡◌, ℕ, List, Option, Some, None, ap, ◌∙◌}
use Rattle.pool_io.specs.declared.turn.Turn.{Turn}
use Rattle.pool_io.specs.declared.source.Took.TheVariants as took
use Rattle.pool_io.specs.Outside.{TakesTurn}
use Rattle.pool_io.specs.Steps.{ReadStep, BringsSteps}

module _ (turns old left : Option (List Turn)) (steps : List ReadStep) (buffer : List ℕ) (brought : BringsSteps turns old steps) where
  brought_same : ((told : List Turn) → old ≡ Some told → left ≡ Some told) → BringsSteps turns left steps
  brought_same same = elim turns as (λ t. BringsSteps t old steps → BringsSteps t left steps) [ None ↦ λ b. tt | Some told ↦ λ b. (b.0, same b.0 b.1, b.2) ] brought

  pub brought_at_end : TakesTurn old left took.End buffer → BringsSteps turns left steps
  brought_at_end takes = brought_same (λ told is. let ended = rw is at takes in ended.1 ∙ ap Some ended.2.1)

  pub brought_at_failure : TakesTurn old left took.Failed buffer → BringsSteps turns left steps
  brought_at_failure takes = brought_same (λ told is. let failed = rw is at takes in failed.1 ∙ ap Some failed.2)
