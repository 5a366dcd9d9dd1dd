use Rattle.std.proofs.Common.{[], ◌∙◌, get_or}
use Rattle.sha256_lanes.proofs.Words.{word_at-front}
use Rattle.sha256_lanes.proofs.rounds.compress.Goals as goal

pub returns : goal.returns
returns c = λ l lt.
    c.compress_words.ensures l lt (get_or c.args.blocks.now l []) (λ k below.
    c.words_of.ensures.words l lt k below ∙ word_at-front (get_or c.args.blocks.now l []) k)
