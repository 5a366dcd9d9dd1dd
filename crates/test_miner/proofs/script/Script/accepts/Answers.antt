use Rattle.std.proofs.Common.{◌≡◌, sym, ap, ◌∙◌}
use Rattle.test_miner.specs.ScriptValues.{ScriptValue}
use Rattle.test_miner.specs.Solutions.{solution_value}
use Rattle.test_miner.proofs.Judged.{both_there, no_template, no_tip}
use Rattle.test_miner.proofs.script.Script.accepts.Goals as goal

pub returns-in_default : goal.returns-in_default
returns-in_default c = no_template c.args.self.now (solution_value c.args.solution.now) (rw c.in_default.is at c.path_of.ensures)

pub returns-in_default-tip : goal.returns-in_default-tip
returns-in_default-tip c =
    let tip = sym (ap (λ (s : ScriptValue). s.tip) c.self.view_is) ∙ c.in_default-tip.is in
    no_tip c.args.self.now (solution_value c.args.solution.now) c.in-Some.template.now c.in-Some.ensures tip

pub returns : goal.returns
returns c =
    let tip = sym (ap (λ (s : ScriptValue). s.tip) c.self.view_is) ∙ c.in-Some-tip.is in
    let both = both_there c.args.self.now (solution_value c.args.solution.now) c.in-Some.template.now c.in-Some-tip.tip c.in-Some.ensures tip in
    rw (← both) (rw c.items.ensures.value at c.is_solved.ensures)
