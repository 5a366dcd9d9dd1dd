use Rattle.std.proofs.Common.{◌≡◌, ℕ, [], ◌∷◌, length, slice_index, get_or}
use Rattle.sha2.specs.Sha256.{word_at}
use Rattle.sha256_lanes.proofs.LaneFacts.{by_lane}
use Rattle.sha256_lanes.proofs.rounds.load_words.Goals as goal

pub returns-clause-words : goal.returns-clause-words
returns-clause-words g c =
    let words = c.load_be.result ∷ c.load_be-2.result ∷ c.load_be-3.result ∷ c.load_be-4.result ∷ [] in
    let here = λ (l : ℕ). slice_index words l ≡ word_at (get_or c.args.messages.now l []) c.args.at in
    by_lane here c.load_be.ensures.word c.load_be-2.ensures.word c.load_be-3.ensures.word c.load_be-4.ensures.word

pub returns-clause-long : goal.returns-clause-long
returns-clause-long g c =
    let here = λ (l : ℕ). length (get_or c.args.messages.now l []) ≡ g.row.N in
    by_lane here c.load_be.ensures.long c.load_be-2.ensures.long c.load_be-3.ensures.long c.load_be-4.ensures.long
