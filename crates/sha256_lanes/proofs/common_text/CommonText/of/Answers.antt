use Rattle.std.proofs.Common.{◌≡◌, ◌∙◌, ◌+◌, ◌*◌, ◌/◌, ◌%◌, ◌^◌, ◌++◌, length, take, drop, replicate, sym, ap, arith, length-append}
use Rattle.std.proofs.lemmas.List.{length-take-le}
use Rattle.sha2.specs.Sha256.{final_hash, hash_after, initial_hash_256, padding}
use Rattle.sha256_lanes.proofs.BlockRows.{hash_around, length-placed, padding_of, placed_in}
use Rattle.sha256_lanes.proofs.common_text.CommonText.of.Goals as goal

pub returns-clause-some : goal.returns-clause-some
returns-clause-some c = record {
  hashed = λ middle long.
      let before = c.args.before.now in
      let after = c.args.after.now in
      let k = length before / 64 in
      let blocks = c.split_at.result.0.now in
      let head = c.split_at.result.1.now in
      let text = c.in_ok-text.text.items in
      let n = length (before ++ middle ++ after) in
      let pad = padding n in
      let cut : length blocks ≡ k * 64 =
      ap length c.split_at.ensures.front ∙ length-take-le (k * 64) before (omega arith) in
      let count : length blocks / 64 ≡ k = omega (arith, cut) in
      let hash : c.first_lane.result ≡ hash_after initial_hash_256 (take (k * 64) before) k =
      c.first_lane.ensures ∙ c.hash_blocks.ensures 0 (omega arith)
      ∙ (λ t. hash_after (c.initial_hash.ensures 0 (omega arith) t) (c.split_at.ensures.front t) (count t)) in
      let total : ((length before + 12) % 2 ^ 64 + length after) % 2 ^ 64 ≡ n % 2 ^ 64 =
      omega (arith, long, length-append before middle, length-append (before ++ middle) after) in
      let is : text ≡ head ++ replicate 12 0 ++ after ++ pad =
      c.in_ok-text.ensures
      ∙ ap (λ p. head ++ replicate 12 0 ++ after ++ p) (padding_of n _ total) in
      let placed : take (length head) text ++ middle ++ drop (length head + 12) text ≡ head ++ middle ++ (after ++ pad) =
      placed_in head after pad middle text is in
      let same : length (head ++ middle ++ (after ++ pad)) ≡ length text =
      sym (ap length placed) ∙ length-placed text middle (length head)
      (omega (arith, ap length is, length-append (head ++ replicate 12 0 ++ after) pad, length-append (head ++ replicate 12 0) after, length-append head (replicate 12 0))) long in
      let back : drop (k * 64) before ≡ head = sym c.split_at.ensures.back in
      hash_around initial_hash_256 before after middle k (omega arith)
      ∙ (λ t. hash_after (sym hash t) (back t ++ middle ++ (after ++ pad))
      (length (back t ++ middle ++ (after ++ pad)) / 64))
      ∙ ap (λ m. hash_after c.first_lane.result (head ++ middle ++ (after ++ pad)) (m / 64)) same
      ∙ ap (λ p. hash_after c.first_lane.result p (length text / 64)) (sym placed);
}
