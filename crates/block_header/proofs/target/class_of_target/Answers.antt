use Rattle.std.proofs.Common.{ap, ◌∙◌}
use Rattle.block_header.specs.Target.{number, class_of_number}
use Rattle.block_header.proofs.Targets.{one_class, class_of_number-IsClassOf}
use Rattle.block_header.proofs.target.class_of_target.Goals as goal

pub returns-clause-value : goal.returns-clause-value
returns-clause-value c = one_class (number c.bytes.result.now) _ _ c.class_of_bytes.ensures (class_of_number-IsClassOf _) ∙ ap (λ x. class_of_number (number x)) c.bytes.ensures.value
