use Rattle.std.proofs.Common.{◌≡◌, ◌∙◌, ap, sym, refl, reverse}
use Rattle.std.specs.Ordering.{is_le, nat_cmp}
use Rattle.std.specs.Cmp.Lexicographic.{slice_cmp}
use Rattle.std.proofs.lemmas.Iterator.Adapters.{YieldsList-from_rev_slice}
use Rattle.std.proofs.lemmas.Iterator.Search.{cmp_from_yields_List}
use Rattle.block_header.proofs.target.is_at_most.Goals as goal

pub returns : goal.returns
returns c =
    let compared : c.cmp.result ≡ slice_cmp nat_cmp (reverse c.args.hash.now) (reverse c.args.target.now) =
    cmp_from_yields_List (λ x y. y ≡ x) _ nat_cmp _ c.cmp.ensures.ran (YieldsList-from_rev_slice c.args.hash.now cc) (λ it e. YieldsList-from_rev_slice c.args.target.now cc) (λ x y. refl) in
    let tested = c.is_le.ensures ∙ ap is_le compared in
    (λ t. sym tested ∙ t, λ t. tested ∙ t)
