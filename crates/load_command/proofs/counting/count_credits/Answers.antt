use Rattle.std.proofs.Common.{◌<◌, ◌∙◌, ap, arith, false, length, rules}
use Rattle.std.specs.Option.{option_map_or}
use Rattle.load_command.specs.Loads.{is_credit}
use Rattle.load_command.proofs.Counted.{counted-none, counted-one}
use Rattle.load_command.proofs.counting.count_credits.Goals.{else-is_credit, then-is_credit}
use Rattle.load_command.proofs.counting.count_credits.Goals as goal

pub loop-at-preserved : goal.loop-at-preserved
loop-at-preserved c =
    let inside : c.loop-at.at < length c.args.history.now.events = search rules in
    let told = c.is_credit.ensures ∙ ap (λ o. option_map_or is_credit o false) c.event.ensures in
    elim c.if-is_credit.branch [
      | then-is_credit w ↦ (
        w.count-is ∙ counted-one c.args.history.now.events c.loop-at.at c.loop-at.count c.is_credit.result inside told w.if-is_credit.true c.loop-at.invariant.0,
        omega (arith, w.count-is, c.loop-at.invariant.1),
      )
      | else-is_credit w ↦ (
        w.count-is ∙ counted-none c.args.history.now.events c.loop-at.at c.loop-at.count c.is_credit.result inside told w.if-is_credit.false c.loop-at.invariant.0,
        omega (arith, w.count-is, c.loop-at.invariant.1),
      )
    ]
