use Rattle.std.proofs.Common.{◌-◌, ap, get_or, set, sym, subst, arith}
use Rattle.payouts.specs.Window.{IsCreditWindow, weights_sum}
use Rattle.payouts.proofs.Added.{IsCutThere, cut_there}
use Rattle.payouts.proofs.window.cut_oldest.Goals as goal

pub take-requires : goal.take-requires
take-requires c =
    let whole : IsCutThere c.args.kept.now.items c.args.weights.now.numbers c.index-oldest.result.now c.from-part.result =
    cut_there _ _ _ _ c.requires.some c.requires.weighed c.index-oldest.ensures (omega (arith, c.from-part.ensures)) in
    record { within = whole.known; some = omega (arith, whole.some, c.from-part.ensures); enough = whole.cut_is.enough }

pub take-requires-2 : goal.take-requires-2
take-requires-2 c =
    let partly : IsCutThere c.args.kept.now.items c.args.weights.now.numbers c.index-oldest.result.now c.args.excess =
    cut_there _ _ _ _ c.requires.some c.requires.weighed c.index-oldest.ensures (omega (arith, c.from-part.ensures, c.if-part-excess.false)) in
    record { within = partly.known; some = omega (arith, c.requires.wanted); enough = partly.cut_is.enough }

whole : (c : goal.After-take) → IsCutThere c.args.kept.now.items c.args.weights.now.numbers c.index-oldest.result.now c.from-part.result
whole c = cut_there _ _ _ _ c.requires.some c.requires.weighed c.index-oldest.ensures (omega (arith, c.from-part.ensures))

pub returns-then-part-excess-clause-weighed : goal.returns-then-part-excess-clause-weighed
returns-then-part-excess-clause-weighed c =
    subst (λ ns. IsCreditWindow c.pop_front-oldest.new.self.items ns) (sym c.take.ensures)
    (subst (λ all. IsCreditWindow all (set c.args.weights.now.numbers c.index-oldest.result.now.place (get_or c.args.weights.now.numbers c.index-oldest.result.now.place 0 - c.from-part.result)))
    (sym c.pop_front-oldest.ensures.rest) ((whole c).cut_is.whole c.from-part.ensures))

pub returns-then-part-excess-clause-taken : goal.returns-then-part-excess-clause-taken
returns-then-part-excess-clause-taken c = omega (arith, (whole c).cut_is.taken, ap weights_sum c.take.ensures, c.if-part-excess.true)

partly : (c : goal.After-take-2) → IsCutThere c.args.kept.now.items c.args.weights.now.numbers c.index-oldest.result.now c.args.excess
partly c = cut_there _ _ _ _ c.requires.some c.requires.weighed c.index-oldest.ensures (omega (arith, c.from-part.ensures, c.if-part-excess.false))

pub returns-clause-weighed : goal.returns-clause-weighed
returns-clause-weighed c =
    subst (λ ns. IsCreditWindow (set c.args.kept.now.items 0 c.shortened.result) ns) (sym c.take-2.ensures)
    (subst (λ kept. IsCreditWindow (set c.args.kept.now.items 0 kept) (set c.args.weights.now.numbers c.index-oldest.result.now.place (get_or c.args.weights.now.numbers c.index-oldest.result.now.place 0 - c.args.excess)))
    (sym c.shortened.ensures) ((partly c).cut_is.part (omega (arith, c.from-part.ensures, c.if-part-excess.false))))

pub returns-clause-taken : goal.returns-clause-taken
returns-clause-taken c = omega (arith, (partly c).cut_is.taken, ap weights_sum c.take-2.ensures)
