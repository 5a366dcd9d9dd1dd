use Rattle.std.proofs.Common.{ap, ◌∙◌}
use Rattle.std.specs.Prelude.{nat_eq}
use Rattle.std.specs.List.{list_any}
use Rattle.prefix_space.specs.HeldLeads.{is_held}
use Rattle.prefix_space.proofs.Holdings.{keys-held}
use Rattle.prefix_space.proofs.space.Space.holds.Goals as goal

pub returns-clause-value : goal.returns-clause-value
returns-clause-value c =
    c.contains.ensures ∙ ap (λ k. list_any (nat_eq k) c.self.inside.held.keys) c.key_of.ensures.value
    ∙ keys-held c.args.lead c.self.inside.held.keys c.key_of.ensures.short c.self.invariant.numbers
    ∙ ap (λ s. is_held s.held c.args.lead) c.self.view_is
