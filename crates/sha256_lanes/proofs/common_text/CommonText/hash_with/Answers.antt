use Rattle.std.proofs.Common.{◌≡◌, ◌∙◌, ◌+◌, ◌-◌, ◌/◌, ◌%◌, ◌≤◌, ◌++◌, [], get_or, length, take, drop, sym, ap, refl, arith}
use Rattle.std.proofs.lemmas.List.{get_or-map, take_rest}
use Rattle.sha2.specs.Sha256.{hash_after}
use Rattle.sha256_lanes.specs.CommonTexts.{text_with}
use Rattle.sha256_lanes.proofs.BlockRows.{drop-placed, hash_after_text, length-placed}
use Rattle.sha256_lanes.proofs.common_text.CommonText.hash_with.Goals as goal

pub returns-clause-hash : goal.returns-clause-hash
returns-clause-hash c = λ l lt.
    let text = c.self.inside.text.items in
    let at = c.self.inside.at in
    let middle = get_or c.args.middles.now l [] in
    let long : length middle ≡ 12 = c.first_blocks_with-first_blocks.ensures.long l lt in
    let within = c.self.invariant.within in
    let two = c.self.invariant.two in
    let placed = take at text ++ middle ++ drop (at + 12) text in
    let placed_long : length placed ≡ length text = length-placed text middle at (omega arith) long in
    let here : length placed / 64 ≡ length text / 64 = ap (λ n. n / 64) placed_long in
    let given = c.deref.result.now in
    let rest : take (length given - 128) (drop 128 given) ≡ drop 128 placed =
    take_rest given 128 ∙ ap (drop 128) c.deref.ensures.value ∙ sym (drop-placed text middle at within two long) in
    let front : get_or c.first_blocks_with-first_blocks.result l [] ≡ take 128 placed =
    ap (λ fronts. get_or fronts l []) c.first_blocks_with-first_blocks.ensures.blocks
    ∙ get_or-map (λ m. take 128 (text_with c.args.self.now m)) c.args.middles.now l [] [] (omega (arith, c.told-middles))
    ∙ ap (λ common. take 128 (text_with common middle)) (sym c.self.view_is) in
    let first = c.hash_first_blocks.ensures l lt
    ∙ (λ t. hash_after (c.in_each_lane.ensures l lt t) (front t) 2) in
    c.hash_blocks.ensures l lt
    ∙ (λ t. hash_after (first t) (rest t) (length (rest t) / 64))
    ∙ sym (hash_after_text c.self.inside.hash placed (omega (arith, placed_long)) (omega (arith, placed_long, c.self.invariant.whole)))
    ∙ ap (hash_after c.self.inside.hash placed) here
    ∙ ap (λ common. hash_after common.hash (text_with common middle) (length common.text / 64)) c.self.view_is
