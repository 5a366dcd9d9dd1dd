-- Several messages hashed at once: word l of each vector belongs to message l.
--
-- Source: FIPS 180-4, by the definitions of the crate sha2.
use Rattle.std.specs.Prelude.{◌≡◌, ◌<◌, ◌*◌, ℕ, List, length, map, slice_index}
use Rattle.sha2.specs.Sha256.{compress, initial_hash_256, word_at}

-- the words of message l in a list of vectors
abbrev pub lane : ℕ → List (List ℕ) → List ℕ
lane l vectors = map (λ v. slice_index v l) vectors

-- the words are the 16 of a block (FIPS 180-4, 5.2.1)
abbrev pub AreWords : List ℕ → List ℕ → Type 0
AreWords block words = (k : ℕ) → k < 16 → slice_index words k ≡ word_at block (4 * k)

-- the second is the hash value behind the first, one block (FIPS 180-4, 6.2.2)
pub record IsBehind (block hash : List ℕ) : Type 0 where
  pub long : length block ≡ 64
  pub compressed : hash ≡ compress initial_hash_256 block
