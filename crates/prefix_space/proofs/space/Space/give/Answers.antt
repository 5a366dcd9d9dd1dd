use Rattle.std.proofs.Common.{ap, subst, sym, ◌∙◌, ◌∷◌}
use Rattle.std.specs.Prelude.{IsPermutation, nat_eq}
use Rattle.indexmap.specs.IndexMap.{swap_remove_by}
use Rattle.prefix_space.specs.HeldLeads.{is_held}
use Rattle.prefix_space.specs.Spaces.{leads_of}
use Rattle.prefix_space.specs.Trees.{nodes_of}
use Rattle.prefix_space.proofs.Holdings.{IsOut, fits-out, is-out}
use Rattle.prefix_space.proofs.Orders.{none-same}
use Rattle.prefix_space.proofs.space.Space.give.Goals as goal
use Rattle.prefix_space.proofs.space.Space.give.Goals.{After-climb_for}

-- what is left
left : (c : After-climb_for) → IsOut c.args.lead c.self.inside.held.keys c.swap_remove-was.new.self.keys
left c =
    subst (IsOut c.args.lead c.self.inside.held.keys)
    (sym (c.swap_remove-was.ensures.keys ∙ ap (λ k. swap_remove_by (nat_eq k) c.self.inside.held.keys) c.key_of.ensures.value))
    (is-out c.args.lead c.self.inside.held.keys (nodes_of c.self.inside.nodes) c.key_of.ensures.short c.self.invariant.numbers c.self.invariant.fits
    (ap (λ s. is_held s.held c.args.lead) c.self.view_is ∙ c.requires))

pub invariant_of-self : goal.invariant_of-self
invariant_of-self c = record {
  numbers = (left c).numbers;
  fits =
      fits-out c.args.lead c.self.inside.held.keys c.swap_remove-was.new.self.keys (nodes_of c.self.inside.nodes) (nodes_of c.climb_for.new.nodes) c.key_of.ensures.short
      c.self.invariant.fits (left c) c.climb_for.ensures.fits;
}

pub returns-clause-held : goal.returns-clause-held
returns-clause-held c =
    subst (λ l. IsPermutation l (c.args.lead ∷ leads_of c.swap_remove-was.new.self)) (ap (λ s. s.held) c.self.view_is) (left c).leads_moved

pub returns-clause-gone : goal.returns-clause-gone
returns-clause-gone c = none-same c.args.lead (leads_of c.swap_remove-was.new.self) (left c).apart.0
