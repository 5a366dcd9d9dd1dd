use Rattle.std.proofs.Common.{ap, sym, ◌∙◌, ◌≡◌, Some}
use Rattle.pool_history.specs.declared.events.Event.TheVariants as event
use Rattle.event_store.proofs.Started.{IsStart, first-start}
use Rattle.event_store.proofs.history.History.rules.Goals as goal

pub unreachable-requires : goal.unreachable-requires
unreachable-requires c =
    let s : IsStart c.self.inside.events.items c.index.result.now = first-start c.self.inside.events.items c.index.result.now c.self.invariant.legal c.self.invariant.started c.index.ensures in
    c.in_default.not-Start s.rules s.start

pub returns : goal.returns
returns c =
    let s : IsStart c.self.inside.events.items c.index.result.now = first-start c.self.inside.events.items c.index.result.now c.self.invariant.legal c.self.invariant.started c.index.ensures in
    let same : event.Start c.in-Start.rules ≡ event.Start s.rules = sym c.in-Start.is ∙ s.start in
    let rules : s.rules ≡ c.in-Start.rules = cc in
    rw (c.get.ensures, ← c.self.view_is) (s.are_rules ∙ ap Some rules)
