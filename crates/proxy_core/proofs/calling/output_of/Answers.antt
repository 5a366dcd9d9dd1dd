use Rattle.std.proofs.Common.{ap, refl, sym, ◌∙◌}
use Rattle.proxy_rules.specs.Miners.{output_in}
use Rattle.proxy_core.proofs.Callers.{found_at, not_found}
use Rattle.proxy_core.proofs.calling.output_of.Goals as goal

pub returns-in-Some : goal.returns-in-Some
returns-in-Some c =
    c.output.ensures ∙ sym (ap output_in (found_at c.args.caller c.args.miners.now c.args.miners.now c.in-Some.place c.index-miners-place.result refl
    c.in-Some.ensures c.index-miners-place.is))

pub returns-in-None : goal.returns-in-None
returns-in-None c = sym (ap output_in (not_found c.args.caller c.args.miners.now c.args.miners.now refl c.in-None.ensures))
