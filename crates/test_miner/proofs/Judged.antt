-- Which solutions are valid.
use Rattle.std.proofs.Common.{◌≡◌, Bool, false, Option, None, Some, sym, ap, ◌∙◌}
use Rattle.coinbase.specs.Reading.{tx_of}
use Rattle.template_msgs.specs.declared.templates.SetNewPrevHash.{SetNewPrevHash}
use Rattle.test_miner.specs.declared.script.ScriptTemplate.{ScriptTemplate}
use Rattle.test_miner.specs.ScriptValues.{ScriptValue}
use Rattle.test_miner.specs.Solutions.{SolutionValue, is_solved, is_valid, is_valid_for, template_with}

-- no template has the id
pub no_template : (script : ScriptValue) (solution : SolutionValue) → None ≡ template_with solution.template_id script.templates → false ≡ is_valid script solution
unfolding is_valid
no_template script solution none = ap (λ (t : Option ScriptTemplate). is_valid_for t script.tip solution) none

-- there is no tip
pub no_tip : (script : ScriptValue) (solution : SolutionValue) (template : ScriptTemplate) → Some template ≡ template_with solution.template_id script.templates → script.tip ≡ None
    → false ≡ is_valid script solution
unfolding is_valid
no_tip script solution template found none =
    sym (ap (λ (tip : Option SetNewPrevHash). is_valid_for (Some template) tip solution) none) ∙ ap (λ (t : Option ScriptTemplate). is_valid_for t script.tip solution) found

-- there are both
pub both_there : (script : ScriptValue) (solution : SolutionValue) (template : ScriptTemplate) (tip : SetNewPrevHash) → Some template ≡ template_with solution.template_id script.templates
    → script.tip ≡ Some tip → is_solved template.path tip (tx_of solution.coinbase_tx) solution ≡ is_valid script solution
unfolding is_valid
both_there script solution template tip found there =
    sym (ap (λ (t : Option SetNewPrevHash). is_valid_for (Some template) t solution) there) ∙ ap (λ (t : Option ScriptTemplate). is_valid_for t script.tip solution) found
