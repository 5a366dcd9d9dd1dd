use Rattle.std.proofs.Common.{◌≡◌, ℕ, ◌∙◌, ◌++◌, ◌*◌, ◌<◌, List, length, slice_index, sym, ap}
use Rattle.sha2.specs.Sha256.{compress, final_hash, initial_hash_256, padding, sha256, word_at}
use Rattle.sha256_lanes.proofs.Whole.{final_hash_32}
use Rattle.sha256_lanes.proofs.Words.{fits-hash_after, length-digest_bytes, word_at-digest_bytes}
use Rattle.sha256_lanes.proofs.digests.hash_again.Goals as goal

-- the words of a digest are those of its hash value
word_at-sha256 : (m h : List ℕ) → h ≡ final_hash initial_hash_256 m → (k : ℕ) → k < 8
    → slice_index h k ≡ word_at (sha256 m) (4 * k)
unfolding sha256
word_at-sha256 m h is k lt =
    ap (λ (v : List ℕ). slice_index v k) is
    ∙ sym (word_at-digest_bytes (final_hash initial_hash_256 m) 8 k (fits-hash_after _ _) lt)

length-sha256 : (m : List ℕ) → length (sha256 m) ≡ 32
unfolding sha256
length-sha256 m = length-digest_bytes (final_hash initial_hash_256 m) 8

pub returns : goal.returns
returns c = λ l lt m is.
    let d = sha256 m in
    let long : length d ≡ 32 = length-sha256 m in
    c.compress_words.ensures l lt (d ++ padding 32)
    (c.padded_32.ensures l lt d long (word_at-sha256 m _ is))
    ∙ ap (λ h. compress h (d ++ padding 32)) (c.initial_hash.ensures l lt)
    ∙ sym (final_hash_32 initial_hash_256 d long)
