use Rattle.std.proofs.Common.{ap, refl, sym, ◌∙◌}
use Rattle.proxy_rules.specs.Miners.{seat_in}
use Rattle.proxy_core.proofs.Callers.{no_session, session_at}
use Rattle.proxy_core.proofs.calling.seat_of.Goals as goal

pub returns-in-Some : goal.returns-in-Some
returns-in-Some c =
    c.seat.ensures ∙ sym (ap seat_in (session_at c.args.caller c.args.miners.now c.args.miners.now c.in-Some.place c.index-miners-place.result refl
    c.in-Some.ensures c.index-miners-place.is))

pub returns-in-None : goal.returns-in-None
returns-in-None c = sym (ap seat_in (no_session c.args.caller c.args.miners.now c.args.miners.now refl c.in-None.ensures))
