-- Messages that differ in twelve bytes alone (this project's own).
--
-- Source: FIPS 180-4, by the definitions of the crate sha2.
use Rattle.std.specs.Prelude.{◌≡◌, ℕ, ◌+◌, ◌/◌, ◌%◌, ◌≤◌, List, ◌++◌, length, take, drop}
use Rattle.sha2.specs.Sha256.{final_hash, hash_after, initial_hash_256}

-- the hash value behind the first blocks of messages, and the text of their other blocks, in which
-- twelve bytes have a place
pub record Common : Type 0 where
  pub hash : List ℕ
  pub text : List ℕ
  pub at : ℕ

-- the text with these twelve bytes in their place
abbrev pub text_with : Common → List ℕ → List ℕ
text_with common middle =
    take common.at common.text ++ middle ++ drop (common.at + 12) common.text

-- the text has two blocks at least, and the twelve bytes stand in the first two
pub record HasTwoBlocks (text : List ℕ) (at : ℕ) : Type 0 where
  pub whole : length text % 64 ≡ 0
  pub two : 128 ≤ length text
  pub within : at + 12 ≤ 128

-- all messages that begin and end so have this in common: each is hashed by hashing the text with
-- its twelve bytes
pub record IsAround (before after : List ℕ) (common : Common) : Type 0 where
  pub hashed : (middle : List ℕ) → length middle ≡ 12
      → final_hash initial_hash_256 (before ++ middle ++ after)
      ≡ hash_after common.hash (text_with common middle) (length common.text / 64)
