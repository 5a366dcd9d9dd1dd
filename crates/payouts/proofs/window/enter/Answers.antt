use Rattle.std.proofs.Common.{List, ℕ, length, ap, sym, subst, ◌∙◌, arith}
use Rattle.payouts.specs.Weights.{AreAtMost}
use Rattle.payouts.specs.Window.{added, without_oldest}
use Rattle.payouts.proofs.Listing.{at_most-same, entered-most}
use Rattle.payouts.proofs.Added.{IsEntered, entered, length-added}
use Rattle.payouts.proofs.window.enter.Goals as goal

then_entered : (c : goal.Then-grown-window) → IsEntered c.args.kept.now.items c.args.weights.now.numbers c.args.credit c.push_back_reserved.new.self.items c.add.new.self.numbers
then_entered c = entered _ _ _ _ _ c.requires.weighed c.requires.known c.push_back_reserved.ensures.items c.add.ensures

pub returns-then-grown-window-clause-kept : goal.returns-then-grown-window-clause-kept
returns-then-grown-window-clause-kept c =
    (then_entered c).nothing _ (omega (arith, c.if-grown-window.true, c.from.ensures, c.from-window.ensures, c.requires.summed))

pub returns-then-grown-window-clause-weighed : goal.returns-then-grown-window-clause-weighed
returns-then-grown-window-clause-weighed c = (then_entered c).window

pub returns-then-grown-window-clause-summed : goal.returns-then-grown-window-clause-summed
returns-then-grown-window-clause-summed c = omega (arith, (then_entered c).summed, c.from.ensures, c.requires.summed)

else_entered : (c : goal.After-drop_oldest-arg-2-1) → IsEntered c.args.kept.now.items c.args.weights.now.numbers c.args.credit c.push_back_reserved.new.self.items c.add.new.self.numbers
else_entered c = entered _ _ _ _ _ c.requires.weighed c.requires.known c.push_back_reserved.ensures.items c.add.ensures

pub drop_oldest-requires-clause-weighed : goal.drop_oldest-requires-clause-weighed
drop_oldest-requires-clause-weighed c = (else_entered c).window

pub drop_oldest-requires-clause-enough : goal.drop_oldest-requires-clause-enough
drop_oldest-requires-clause-enough c = omega (arith, (else_entered c).summed, c.from.ensures, c.requires.summed)

else_entered_after : (c : goal.After-drop_oldest) → IsEntered c.args.kept.now.items c.args.weights.now.numbers c.args.credit c.push_back_reserved.new.self.items c.add.new.self.numbers
else_entered_after c = entered _ _ _ _ _ c.requires.weighed c.requires.known c.push_back_reserved.ensures.items c.add.ensures

pub returns-clause-summed : goal.returns-clause-summed
returns-clause-summed c = omega (arith, (else_entered_after c).summed, c.drop_oldest.ensures.taken, c.from.ensures, c.from-window.ensures, c.requires.summed, c.if-grown-window.false)

pub returns-then-grown-window-clause-most : goal.returns-then-grown-window-clause-most
returns-then-grown-window-clause-most c = subst (λ ns. AreAtMost ns (added c.args.weights.now.numbers c.args.credit.place c.args.credit.part)) (sym c.add.ensures) (at_most-same (added c.args.weights.now.numbers c.args.credit.place c.args.credit.part))

pub returns-clause-most : goal.returns-clause-most
returns-clause-most c =
    entered-most c.args.kept.now.items c.args.weights.now.numbers c.args.credit c.drop_oldest.new.kept.items c.drop_oldest.new.weights.numbers _ c.requires.weighed
    (c.drop_oldest.ensures.kept ∙ ap (without_oldest _) c.push_back_reserved.ensures.items) c.drop_oldest.ensures.weighed
    (c.drop_oldest.ensures.length ∙ ap (λ (ns : List ℕ). length ns) c.add.ensures)

pub returns-then-grown-window-clause-length : goal.returns-then-grown-window-clause-length
returns-then-grown-window-clause-length c = ap (λ (ns : List ℕ). length ns) c.add.ensures ∙ length-added c.args.weights.now.numbers c.args.credit.place c.args.credit.part

pub returns-clause-length : goal.returns-clause-length
returns-clause-length c =
    c.drop_oldest.ensures.length ∙ ap (λ (ns : List ℕ). length ns) c.add.ensures ∙ length-added c.args.weights.now.numbers c.args.credit.place c.args.credit.part
