use Rattle.std.proofs.Common.{◌+◌, List, ap, sym, subst}
use Rattle.proxy_rules.specs.State.{SentOn}
use Rattle.proxy_core.specs.Waiting.{AreRising}
use Rattle.proxy_core.proofs.Rising.{rising-more}
use Rattle.proxy_core.proofs.waiting.SharesSent.add.Goals as goal

pub invariant_of-self-2 : goal.invariant_of-self-2
invariant_of-self-2 c =
    subst (λ (list : List SentOn). AreRising 0 list (c.self.inside.count + 1)) (sym c.in_ok-push_back.ensures.items)
    (rising-more 0 c.self.inside.waiting.items c.self.inside.count c.new.result (ap (λ (sent : SentOn). sent.number) c.new.ensures) c.self.invariant)
