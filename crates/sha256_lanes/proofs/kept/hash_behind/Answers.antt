use Rattle.std.proofs.Common.{◌≡◌, ◌∙◌, ◌++◌, [], get_or, length, sym, ap}
use Rattle.sha2.specs.Sha256.{compress, initial_hash_256, padding}
use Rattle.sha256_lanes.proofs.Whole.{final_hash_80}
use Rattle.sha256_lanes.proofs.Words.{word_at-front}
use Rattle.sha256_lanes.proofs.kept.hash_behind.Goals as goal

pub returns : goal.returns
returns c = λ front behind l lt.
    let tail = get_or c.args.tails.now l [] in
    let long : length tail ≡ 16 = c.words_of.ensures.long l lt in
    c.compress_words.ensures l lt (tail ++ padding 80)
    (c.padded_80.ensures l lt tail long (λ k below. c.words_of.ensures.words l lt k below
    ∙ word_at-front tail k))
    ∙ ap (λ h. compress h (tail ++ padding 80)) (c.in_each_lane.ensures l lt ∙ behind.compressed)
    ∙ sym (final_hash_80 initial_hash_256 front tail behind.long long)
