use Rattle.std.proofs.Common.{◌≡◌, ◌∙◌, [], ◌++◌, get_or, length, sym, ap}
use Rattle.sha2.specs.Sha256.{compress, initial_hash_256, padding}
use Rattle.sha256_lanes.proofs.Whole.{final_hash_32}
use Rattle.sha256_lanes.proofs.Words.{word_at-front}
use Rattle.sha256_lanes.proofs.digests.hash_32.Goals as goal

pub returns : goal.returns
returns c = λ l lt.
    let m = get_or c.args.messages.now l [] in
    let long : length m ≡ 32 = c.words_of.ensures.long l lt in
    c.compress_words.ensures l lt (m ++ padding 32)
    (c.padded_32.ensures l lt m long (λ k below. c.words_of.ensures.words l lt k below ∙ word_at-front m k))
    ∙ ap (λ h. compress h (m ++ padding 32)) (c.initial_hash.ensures l lt)
    ∙ sym (final_hash_32 initial_hash_256 m long)
