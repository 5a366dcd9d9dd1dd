use Rattle.std.proofs.Common.{◌≡◌, ◌-◌, true, false, sym, ap, ◌∙◌, arith}
use Rattle.proxy_rules.specs.Miners.{is_held, least_from}
use Rattle.proxy_core.proofs.Leads.{next_lead, no_lead, this_lead}
use Rattle.proxy_core.proofs.subscribing.least_free.Goals as goal

pub returns-then-not-is_held : goal.returns-then-not-is_held
returns-then-not-is_held c =
    let free : is_held c.loop-place.place c.args.held.now ≡ false = cc in
    sym (c.loop-place.invariant ∙ this_lead c.args.held.now 65536 c.loop-place.place (omega arith) free)

pub loop-place-preserved : goal.loop-place-preserved
loop-place-preserved c =
    let held : is_held c.loop-place.place c.args.held.now ≡ true = cc in
    c.loop-place.invariant ∙ next_lead c.args.held.now 65536 c.loop-place.place (omega arith) held

pub returns : goal.returns
returns c =
    let none : 65536 - c.loop-place.place ≡ 0 = omega arith in
    sym (c.loop-place.invariant ∙ ap (λ n. least_from n c.args.held.now c.loop-place.place) none ∙ no_lead c.args.held.now c.loop-place.place)
