use Rattle.std.proofs.Common.{◌≡◌, ◌∙◌, ◌*◌, [], get_or, length, take, drop, sym, ap, arith}
use Rattle.sha2.specs.Sha256.{compress}
use Rattle.sha256_lanes.specs.Lanes.{lane}
use Rattle.sha256_lanes.proofs.BlockRows.{hash_after_two}
use Rattle.sha256_lanes.proofs.Words.{word_at-front, word_at-drop, word_at-take}
use Rattle.sha256_lanes.proofs.common_text.hash_first_blocks.Goals as goal

pub returns : goal.returns
returns c = λ l lt.
    let m = get_or c.args.first_blocks.now l [] in
    let long : length m ≡ 128 = c.words_of.ensures.long l lt in
    let first = c.compress_words-first.ensures l lt (take 64 m)
    (λ k below. c.words_of.ensures.words l lt k below ∙ word_at-front m k
    ∙ sym (word_at-take m 64 (4 * k) (omega arith))) in
    c.compress_words.ensures l lt (drop 64 m)
    (λ k below. c.words_of-2.ensures.words l lt k below ∙ sym (word_at-drop m 64 (4 * k)))
    ∙ ap (λ h. compress h (drop 64 m)) first
    ∙ hash_after_two (lane l c.args.state) m long
