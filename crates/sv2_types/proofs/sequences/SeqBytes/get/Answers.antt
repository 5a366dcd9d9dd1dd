use Rattle.std.proofs.Common.{drop, arith, sym, ap, ◌∙◌}
use Rattle.std.specs.List.{slice_get}
use Rattle.std.proofs.lemmas.List.{take_rest, length-take-le, length-drop}
use Rattle.std.proofs.lemmas.Option.{slice_get_past}
use Rattle.sv2_types.specs.Reading.{parts_at}
use Rattle.sv2_types.proofs.Items.{behind_first, length-parts_at, slice_get-drop}
use Rattle.sv2_types.proofs.sequences.SeqBytes.get.Goals as goal

pub returns-then-at-count : goal.returns-then-at-count
returns-then-at-count c =
    let parts = parts_at c.args.self.now.count c.args.self.now.spelled.now in
    sym (slice_get_past parts c.args.at (omega (arith, length-parts_at c.args.self.now.count c.args.self.now.spelled.now)))

pub slice_bounds-result-end : goal.slice_bounds-result-end
slice_bounds-result-end c =
    let rest = c.behind_parts-rest.result.now in
    let first = behind_first _ rest (omega arith) c.behind_parts-rest.ensures.whole in
    rw (take_rest rest 3) (sym (length-take-le c.said_u24.result (drop 3 rest) (omega (arith, first.fits, length-drop 3 rest))))

pub returns : goal.returns
returns c =
    let rest = c.behind_parts-rest.result.now in
    let first = behind_first _ rest (omega arith) c.behind_parts-rest.ensures.whole in
    let there = sym first.parts ∙ c.behind_parts-rest.ensures.parts in
    rw (take_rest rest 3, c.said_u24.ensures.value)
    (ap (λ items. slice_get items 0) there ∙ sym (slice_get-drop _ c.args.at))
