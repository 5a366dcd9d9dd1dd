use Rattle.std.proofs.Common.{◌≡◌, suc, ◌-◌, ap, sym, ◌∙◌, arith}
use Rattle.channels.proofs.Halves.{class-parted, last-at, last_of}
use Rattle.channels.proofs.settings.class_by_halves.Goals as goal

pub returns-then-count-eq0 : goal.returns-then-count-eq0
returns-then-count-eq0 c =
    sym
    (class-parted c.args.place c.args.opening c.count_before-count.result c.args.settings.now c.count_before-count.ensures.parted.0
    c.count_before-count.ensures.parted.1 c.count_before-count.ensures.within
    ∙ ap (last_of c.args.opening c.args.settings.now) c.if-count-eq0.true)

pub returns : goal.returns
returns c =
    let more : c.count_before-count.result ≡ suc (c.count_before-count.result - 1) = omega (arith, c.if-count-eq0.false) in
    sym
    (class-parted c.args.place c.args.opening c.count_before-count.result c.args.settings.now c.count_before-count.ensures.parted.0
    c.count_before-count.ensures.parted.1 c.count_before-count.ensures.within
    ∙ ap (last_of c.args.opening c.args.settings.now) more
    ∙ last-at c.args.opening (c.count_before-count.result - 1) c.args.settings.now c.index-settings-count.result
    (omega (arith, c.if-count-eq0.false, c.count_before-count.ensures.within)))
