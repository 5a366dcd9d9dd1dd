use Rattle.std.proofs.Common.{◌==◌, List, not, sym, subst}
use Rattle.proxy_rules.specs.State.{SentOn}
use Rattle.proxy_core.specs.Waiting.{AreRising}
use Rattle.proxy_core.proofs.Rising.{rising-filter}
use Rattle.proxy_core.proofs.waiting.SharesSent.forget.Goals as goal

pub invariant_of-self : goal.invariant_of-self
invariant_of-self c =
    subst (λ (list : List SentOn). AreRising 0 list c.self.inside.count) (sym c.forget.ensures)
    (rising-filter (λ sent. not (sent.caller == c.args.caller)) 0 c.self.inside.waiting.items c.self.inside.count c.self.invariant)
