use Rattle.std.proofs.Common.{◌+◌, List, ℕ, length, ap, ◌∙◌, sym, subst, ap₂}
use Rattle.payouts.specs.Weights.{AreAtMost}
use Rattle.payouts.specs.Window.{added, weights_sum}
use Rattle.payouts.proofs.Listing.{at_most-same}
use Rattle.payouts.proofs.Added.{length-added, total-added}
use Rattle.payouts.proofs.tally.weigh.Goals as goal

pub returns-in-Proportional-clause-summed : goal.returns-in-Proportional-clause-summed
returns-in-Proportional-clause-summed c =
    ap₂ (λ n m. n + m) c.requires.summed c.from.ensures
    ∙ sym (ap weights_sum c.add.ensures ∙ total-added c.args.weights.now.numbers c.args.credit.place c.args.credit.part c.requires.known.known)

pub returns-in-Proportional-clause-most : goal.returns-in-Proportional-clause-most
returns-in-Proportional-clause-most c = subst (λ ns. AreAtMost ns (added c.args.weights.now.numbers c.args.credit.place c.args.credit.part)) (sym c.add.ensures) (at_most-same (added c.args.weights.now.numbers c.args.credit.place c.args.credit.part))

pub returns-in-Proportional-clause-length : goal.returns-in-Proportional-clause-length
returns-in-Proportional-clause-length c = ap (λ (ns : List ℕ). length ns) c.add.ensures ∙ length-added c.args.weights.now.numbers c.args.credit.place c.args.credit.part
