use Rattle.std.proofs.Common.{[], ◌∷◌, ◌++◌, ap, sym, ◌∙◌}
use Rattle.proxy_rules.specs.Miners.{rejoined, with_new}
use Rattle.proxy_core.proofs.Callers.{found_at, not_found, set_at}
use Rattle.proxy_core.proofs.calling.join.Goals as goal

pub returns-in-Some : goal.returns-in-Some
returns-in-Some c =
    set_at c.args.caller rejoined c.args.miners.now.items c.as_slice.result.now c.in-Some.place c.index_mut.result.now c.rejoin.new.self
    c.as_slice.ensures.value c.in-Some.ensures c.index_mut.ensures.value c.rejoin.ensures
    ∙ sym (ap (λ found. with_new c.args.caller found c.args.miners.now.items)
    (found_at c.args.caller c.args.miners.now.items c.as_slice.result.now c.in-Some.place c.index_mut.result.now
    c.as_slice.ensures.value c.in-Some.ensures c.index_mut.ensures.value))

pub returns-in_ok-push-in-None : goal.returns-in_ok-push-in-None
returns-in_ok-push-in-None c =
    let none = not_found c.args.caller c.args.miners.now.items c.as_slice.result.now c.as_slice.ensures.value c.in-None.ensures in
    c.in_ok-push-in-None.ensures.items ∙ ap (λ m. c.args.miners.now.items ++ m ∷ []) c.new.ensures
    ∙ sym (ap (λ found. with_new c.args.caller found c.args.miners.now.items) none)
