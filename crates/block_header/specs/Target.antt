-- Targets, and the classes that stand for them.
--
-- Sources: Bitcoin's "Target nBits" compares a hash as a number; a target is Stratum V2's U256, low
-- byte first. Classes are this project's own.
-- Computed on targets of ones, at the edges of bytes, and of zeros (the crate's tests).
use Rattle.std.specs.Prelude.{◌≡◌, ℕ, zero, suc, ◌+◌, ◌-◌, ◌*◌, ◌/◌, ◌%◌, ◌^◌, ◌<◌, ◌≤◌, Bool, IsTrue, if◌then◌else◌, List, [], ◌∷◌, length, reverse, slice_index, nat_le}
use Rattle.std.specs.Cmp.Lexicographic.{slice_cmp}
use Rattle.std.specs.Ordering.{is_le, nat_cmp}

-- a U256: 32 bytes (Stratum V2, "Data Types Mapping")
pub record IsU256 (hash : List ℕ) : Type 0 where
  pub whole : length hash ≡ 32
  pub bytes : (i : ℕ) → slice_index hash i < 256

-- whether a hash, displayed, isn't after a target in byte order
abbrev pub is_at_most : List ℕ → List ℕ → Bool
is_at_most hash target = is_le (slice_cmp nat_cmp (reverse hash) (reverse target))

-- a hash is at most a target: displayed, it isn't after the target in byte order
abbrev pub IsAtMost : List ℕ → List ℕ → Type 0
IsAtMost hash target = IsTrue (is_at_most hash target)

-- the number of a target, the first byte the lowest (Stratum V2, U256)
abbrev pub number : List ℕ → ℕ
number [] = 0
number (byte ∷ bytes) = byte + 256 * number bytes

-- n bytes of a number, the first the lowest
unfoldable pub number_bytes : ℕ → ℕ → List ℕ
number_bytes zero number = []
number_bytes (suc n) number = number % 256 ∷ number_bytes n (number / 256)

-- the greatest number that is displayed with z leading zero bits of 256
abbrev pub target_number : ℕ → ℕ
target_number z = 2 ^ (256 - z) - 1

-- the target of a class, T_z (this project's own)
abbrev pub target : ℕ → List ℕ
target z = number_bytes 32 (target_number z)

-- z is the class of the target that has this number: the least z with T_z at most that
pub record IsClassOf (number z : ℕ) : Type 0 where
  pub reached : target_number z ≤ number
  pub least : (y : ℕ) → y < z → number < target_number y

-- the first class from z on, of n more, whose target is at most the number
unfoldable pub first_class : ℕ → ℕ → ℕ → ℕ
first_class number z zero = z
first_class number z (suc n) =
    if nat_le (target_number z) number then z else first_class number (suc z) n

-- the class of the target that has this number, 256 at 0 (this project's own)
abbrev pub class_of_number : ℕ → ℕ
class_of_number number = first_class number 0 256
