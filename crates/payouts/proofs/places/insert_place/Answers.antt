use Rattle.std.proofs.Common.{◌∙◌, cond, sym, ap, subst}
use Rattle.std.specs.List.{insert}
use Rattle.std.specs.List.Sorted.{IsBinarySearchResult}
use Rattle.std.specs.Ordering.{nat_cmp}
use Rattle.payouts.proofs.Ordered.{found, found_at, inserted_at}
use Rattle.payouts.proofs.places.insert_place.Goals as goal

pub returns-in-Ok-clause-places : goal.returns-in-Ok-clause-places
returns-in-Ok-clause-places c =
    let at = found_at c.args.places.now.items c.args.place c.in-Ok._at c.binary_search.result c.requires.rising c.in-Ok.is
    (subst (λ xs. IsBinarySearchResult (λ y. nat_cmp y c.args.place) xs c.binary_search.result) c.deref.ensures.value c.binary_search.ensures.position) in
    sym (found 0 c.args.places.now.items c.args.place c.in-Ok._at c.requires.rising at.0 at.1)

pub returns-in-Err-clause-places : goal.returns-in-Err-clause-places
returns-in-Err-clause-places c =
    c.insert-done.ensures.items
    ∙ ap (λ t. cond t (insert c.args.places.now.items c.in-Err.at c.args.place) c.args.places.now.items) (c.insert-done.ensures.succeeds c.requires.room)
    ∙ inserted_at c.args.places.now.items c.args.place c.in-Err.at c.binary_search.result c.requires.rising c.in-Err.is
    (subst (λ xs. IsBinarySearchResult (λ y. nat_cmp y c.args.place) xs c.binary_search.result) c.deref.ensures.value c.binary_search.ensures.position)
