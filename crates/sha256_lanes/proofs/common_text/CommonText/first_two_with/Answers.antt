use Rattle.std.proofs.Common.{◌≡◌, ◌∙◌, ◌+◌, ◌-◌, ◌++◌, length, take, drop, sym, ap, refl, arith}
use Rattle.std.proofs.lemmas.List.{length-take-le, take_all}
use Rattle.std.proofs.lemmas.Slice.{put_mid-paste}
use Rattle.sha256_lanes.specs.CommonTexts.{text_with}
use Rattle.sha256_lanes.proofs.BlockRows.{take-placed}
use Rattle.sha256_lanes.proofs.common_text.CommonText.first_two_with.Goals as goal

pub slice_bounds-copy_from_slice-end-2 : goal.slice_bounds-copy_from_slice-end-2
slice_bounds-copy_from_slice-end-2 c =
    sym (ap (λ text. length (take 128 text)) c.deref.ensures.value
    ∙ length-take-le 128 c.self.inside.text.items c.self.invariant.two)

pub copy_from_slice-requires : goal.copy_from_slice-requires
copy_from_slice-requires c =
    sym (ap (λ text. length (take 128 text)) c.deref.ensures.value
    ∙ length-take-le 128 c.self.inside.text.items c.self.invariant.two)

pub returns-clause-blocks : goal.returns-clause-blocks
returns-clause-blocks c =
    let text = c.self.inside.text.items in
    let at = c.self.inside.at in
    let middle = c.args.middle.now in
    let long : length middle ≡ 12 = c.told-middle in
    let front : c.copy_from_slice.new.self ≡ take 128 text =
    c.copy_from_slice.ensures.after ∙ ap (take 128) c.deref.ensures.value in
    put_mid-paste at _ c.copy_from_slice.new.self c.copy_from_slice-2.new.self middle 12
    c.copy_from_slice-2.ensures.after (omega arith) (sym long)
    ∙ (λ t. take at (front t) ++ take_all 12 middle (omega (arith, long)) t ++ drop (at + 12) (front t))
    ∙ take-placed text middle at c.self.invariant.within c.self.invariant.two long
    ∙ ap (λ common. take 128 (text_with common middle)) c.self.view_is
