use Rattle.std.proofs.Common.{◌≡◌, ◌∙◌, ◌++◌, ◌*◌, [], get_or, length, take, drop, sym, ap, arith}
use Rattle.std.proofs.lemmas.List.{length-take-le, take-append-drop}
use Rattle.std.proofs.Common.{length-drop}
use Rattle.sha2.specs.Sha256.{compress, final_hash, initial_hash_256, padding}
use Rattle.sha256_lanes.proofs.Whole.{final_hash_80}
use Rattle.sha256_lanes.proofs.Words.{word_at-front, word_at-drop, word_at-take}
use Rattle.sha256_lanes.proofs.digests.hash_80.Goals as goal

pub returns : goal.returns
returns c = λ l lt.
    let m = get_or c.args.messages.now l [] in
    let front = take 64 m in
    let tail = drop 64 m in
    let long : length m ≡ 80 = c.words_of.ensures.long l lt in
    let front_long : length front ≡ 64 = length-take-le 64 m (omega arith) in
    let tail_long : length tail ≡ 16 = omega (arith, length-drop 64 m) in
    let first = c.compress_words-front.ensures l lt front
    (λ k below. c.words_of.ensures.words l lt k below ∙ word_at-front m k ∙ sym (word_at-take m 64 (4 * k) (omega arith)))
    ∙ ap (λ h. compress h front) (c.initial_hash.ensures l lt) in
    c.compress_words.ensures l lt (tail ++ padding 80)
    (c.padded_80.ensures l lt tail tail_long (λ k below. c.words_of-2.ensures.words l lt k below
    ∙ sym (word_at-drop m 64 (4 * k))))
    ∙ ap (λ h. compress h (tail ++ padding 80)) first
    ∙ sym (final_hash_80 initial_hash_256 front tail front_long tail_long)
    ∙ ap (final_hash initial_hash_256) (take-append-drop 64 m)
