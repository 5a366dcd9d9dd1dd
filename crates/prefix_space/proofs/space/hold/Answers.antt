use Rattle.std.proofs.Common.{◌≡◌, ap, map, subst, sym, ◌∙◌, ◌∷◌, ◌++◌, [], length}
use Rattle.std.specs.Prelude.{nat_eq}
use Rattle.std.specs.List.{AllByRecursion, list_any}
use Rattle.prefix_space.specs.Paths.{lead_key, lead_of}
use Rattle.prefix_space.specs.Spaces.{leads_of}
use Rattle.prefix_space.specs.Trees.{FitsTree, nodes_of}
use Rattle.prefix_space.proofs.Holdings.{fits-in, found-free, free-new, leads-end, numbers-end}
use Rattle.prefix_space.proofs.space.hold.Goals as goal

pub put_key-requires-clause-new : goal.put_key-requires-clause-new
put_key-requires-clause-new c =
    ap (λ k. list_any (nat_eq k) c.args.held.now.keys) c.key_of.ensures.value
    ∙ free-new c.args.lead c.args.held.now.keys c.key_of.ensures.short c.requires.space.numbers
    (found-free (length c.args.lead) (leads_of c.args.held.now) c.args.lead c.requires.lowest)

pub returns-clause-held : goal.returns-clause-held
returns-clause-held c =
    ap (map lead_of) (c.put_key.ensures.keys ∙ ap (λ k. c.args.held.now.keys ++ k ∷ []) c.key_of.ensures.value)
    ∙ leads-end c.args.held.now.keys c.args.lead c.key_of.ensures.short

pub returns-clause-space : goal.returns-clause-space
returns-clause-space c =
    let keys : c.put_key.new.held.keys ≡ c.args.held.now.keys ++ lead_key c.args.lead ∷ [] =
    c.put_key.ensures.keys ∙ ap (λ k. c.args.held.now.keys ++ k ∷ []) c.key_of.ensures.value in
    record {
      numbers =
          subst (AllByRecursion (λ key. key ≡ lead_key (lead_of key))) (sym keys)
          (numbers-end c.args.held.now.keys c.args.lead c.key_of.ensures.short c.requires.space.numbers);
      fits =
          subst (λ leads. FitsTree leads (nodes_of c.climb_for.new.nodes)) (sym (ap (map lead_of) keys ∙ leads-end c.args.held.now.keys c.args.lead c.key_of.ensures.short))
          (fits-in c.args.lead (leads_of c.args.held.now) (nodes_of c.args.nodes.now) (nodes_of c.add_way.new.nodes) (nodes_of c.climb_for.new.nodes) c.key_of.ensures.short
          c.requires.space.fits (found-free (length c.args.lead) (leads_of c.args.held.now) c.args.lead c.requires.lowest)
          (c.add_way.ensures.adds c.key_of.ensures.short.each) c.climb_for.ensures.fits);
    }
