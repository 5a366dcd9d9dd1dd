use Rattle.std.proofs.Common.{◌≡◌, ◌++◌, ◌∷◌, [], drop, ap, sym, ◌∙◌, append_assoc, append-nil, arith, Some, slice_get}
use Rattle.job_declaration.specs.Tree.{path, row_above}
use Rattle.job_declaration.proofs.Trees.{path-first, path-none, take-written}
use Rattle.job_declaration.proofs.paths.merkle_path.Goals as goal

pub loop-first-preserved : goal.loop-first-preserved
loop-first-preserved c =
    let at : Some c.in-Some.first ≡ slice_get c.loop-first.row.items 0 = cc (c.in-Some.ensures, c.first.ensures.value, c.deref.ensures.value) in
    let first = path-first c.loop-first.row.items c.in-Some.first at in
    let written = take-written c.pair_up-above.result c.loop-first.row.len c.loop-first.row.items c.pair_up-above.new.row (omega arith) (omega arith) in
    let above : c.truncate.new.self.items ≡ row_above (drop 1 c.loop-first.row.items) = c.truncate.ensures.items ∙ written ∙ c.pair_up-above.ensures.above ∙ ap (λ row. row_above (drop 1 row)) c.deref_mut.ensures.value in
    c.loop-first.invariant ∙ ap (λ rest. c.loop-first.path.items ++ rest) (first ∙ ap (λ row. c.in-Some.first ∷ path row) (sym above))
    ∙ sym (append_assoc c.loop-first.path.items (c.in-Some.first ∷ []) (path c.truncate.new.self.items))
    ∙ ap (λ front. front ++ path c.truncate.new.self.items) (sym c.in_ok-push.ensures.items)

pub returns : goal.returns
returns c =
    let none = path-none c.loop-first.row.items (cc (c.in_default.ensures, c.first.ensures.value, c.deref.ensures.value)) in
    sym (c.loop-first.invariant ∙ ap (λ rest. c.loop-first.path.items ++ rest) none ∙ append-nil c.loop-first.path.items)
