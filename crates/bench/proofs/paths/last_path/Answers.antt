use Rattle.std.proofs.Common.{◌≡◌, ◌-◌, ap, ◌∙◌, arith}
use Rattle.job_declaration.specs.Tree.{path}
use Rattle.bench.specs.Numbered.{ending_in}
use Rattle.bench.proofs.Numbering.{one_more}
use Rattle.bench.proofs.paths.last_path.Goals as goal

pub loop-number-preserved : goal.loop-number-preserved
loop-number-preserved c =
    one_more _ _ _ _ _ _ c.loop-number.invariant c.path_ending_in.ensures.ids c.in_ok-path.ensures.path

pub returns : goal.returns
returns c =
    let all : c.loop-number.number ≡ c.args.count = omega (arith, c.loop-number-test.false, c.loop-number.auto.number-end) in
    λ some. c.loop-number.invariant.last (rw all some) ∙ ap (λ n. path (ending_in c.args.ids.now (n - 1))) all
