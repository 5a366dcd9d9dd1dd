-- A test of each byte, and the bits of a row.
use Rattle.std.proofs.Common.{◌⊎◌, inl, inr, ◌≡◌, ◌≢◌, ℕ, zero, suc, ◌+◌, ◌*◌, ◌/◌, ◌%◌, ◌^◌, ◌<◌, ◌≤◌, Bool, true, false, ◌&&◌, ◌||◌, refl, ap, subst, sym, ◌∙◌, arith, w64}
use Rattle.std.proofs.lemmas.Bool.{and_from, and_parts, cases_lt, false_from_ne_true, false≢true, or_from, or_left, or_right}
use Rattle.std.proofs.lemmas.Nat.Bits.{bit_at-trailing_zeros, bit_at-zero}
use Rattle.std.specs.Prelude.{nat_eq, slice_index}
use Rattle.std.specs.Int.{bit_at, trailing_zeros}
use Rattle.std.specs.List.{list_all, list_any, range_with_len}
use Rattle.prefix_space.specs.declared.rows.Row.{Row}
use Rattle.prefix_space.specs.Rows.{all_bytes, any_byte, has_bit}

all-from : (f : ℕ → Bool) (a n : ℕ) → ((b : ℕ) → a ≤ b → b < a + n → f b ≡ true) → list_all f (range_with_len a n) ≡ true
all-from f a zero h = refl
all-from f a (suc n) h =
    and_from (f a) (list_all f (range_with_len (a + 1) n)) (h a (omega arith) (omega arith))
    (all-from f (a + 1) n (λ b from until. h b (omega (arith, from)) (omega (arith, until))))

all-at : (f : ℕ → Bool) (a n b : ℕ) → list_all f (range_with_len a n) ≡ true → a ≤ b → b < a + n → f b ≡ true
all-at f a zero b all from until = absurd (omega (arith, from, until))
all-at f a (suc n) b all from until =
    let parts : (f a ≡ true) × (list_all f (range_with_len (a + 1) n) ≡ true) = and_parts (f a) (list_all f (range_with_len (a + 1) n)) all in
    by_place (cases_lt a b) (λ after. all-at f (a + 1) n b parts.1 after (omega (arith, until))) where
      by_place : (a < b) ⊎ (b ≤ a) → (a + 1 ≤ b → f b ≡ true) → f b ≡ true
      by_place (inl after) later = later (omega (arith, after))
      by_place (inr most) later =
          let here : a ≡ b = omega (arith, most, from) in
          subst (λ n. f n ≡ true) here (and_parts (f a) (list_all f (range_with_len (a + 1) n)) all).0

any-from : (f : ℕ → Bool) (a n b : ℕ) → f b ≡ true → a ≤ b → b < a + n → list_any f (range_with_len a n) ≡ true
any-from f a zero b is from until = absurd (omega (arith, from, until))
any-from f a (suc n) b is from until = by_place (cases_lt a b) (λ after. any-from f (a + 1) n b is after (omega (arith, until))) where
  by_place : (a < b) ⊎ (b ≤ a) → (a + 1 ≤ b → list_any f (range_with_len (a + 1) n) ≡ true) → f a || list_any f (range_with_len (a + 1) n) ≡ true
  by_place (inl after) later = or_right (f a) (list_any f (range_with_len (a + 1) n)) (later (omega (arith, after)))
  by_place (inr most) later =
      let here : b ≡ a = omega (arith, most, from) in
      or_left (f a) (list_any f (range_with_len (a + 1) n)) (subst (λ n. f n ≡ true) here is)

none-from : (f : ℕ → Bool) (a n : ℕ) → ((b : ℕ) → a ≤ b → b < a + n → f b ≡ false) → list_any f (range_with_len a n) ≡ false
none-from f a zero h = refl
none-from f a (suc n) h =
    or_from (f a) (list_any f (range_with_len (a + 1) n)) (h a (omega arith) (omega arith))
    (none-from f (a + 1) n (λ b from until. h b (omega (arith, from)) (omega (arith, until))))

same-from : (f g : ℕ → Bool) (a n : ℕ) → ((b : ℕ) → a ≤ b → b < a + n → f b ≡ g b) → list_all f (range_with_len a n) ≡ list_all g (range_with_len a n)
same-from f g a zero h = refl
same-from f g a (suc n) h =
    ap (λ t. t && list_all f (range_with_len (a + 1) n)) (h a (omega arith) (omega arith))
    ∙ ap (λ t. g a && t) (same-from f g (a + 1) n (λ b from until. h b (omega (arith, from)) (omega (arith, until))))

-- each byte passes
pub all-bytes : (f : ℕ → Bool) → ((b : ℕ) → b < 256 → f b ≡ true) → all_bytes f ≡ true
unfolding all_bytes
all-bytes f h = all-from f 0 256 (λ b from until. h b until)

pub all-bytes-at : (f : ℕ → Bool) (b : ℕ) → all_bytes f ≡ true → b < 256 → f b ≡ true
unfolding all_bytes
all-bytes-at f b all below = all-at f 0 256 b all (omega arith) below

pub all-bytes-fail : (f : ℕ → Bool) (b : ℕ) → f b ≡ false → b < 256 → all_bytes f ≡ false
all-bytes-fail f b fails below =
    false_from_ne_true (all_bytes f) (λ all. false≢true (sym fails ∙ all-bytes-at f b all below))

pub all-bytes-same : (f g : ℕ → Bool) → ((b : ℕ) → b < 256 → f b ≡ g b) → all_bytes f ≡ all_bytes g
unfolding all_bytes
all-bytes-same f g h = same-from f g 0 256 (λ b from until. h b until)

-- one byte passes, or none
pub any-byte : (f : ℕ → Bool) (b : ℕ) → f b ≡ true → b < 256 → any_byte f ≡ true
unfolding any_byte
any-byte f b is below = any-from f 0 256 b is (omega arith) below

pub no-byte : (f : ℕ → Bool) → ((b : ℕ) → b < 256 → f b ≡ false) → any_byte f ≡ false
unfolding any_byte
no-byte f h = none-from f 0 256 (λ b from until. h b until)

pub no-byte-at : (f : ℕ → Bool) (b : ℕ) → any_byte f ≡ false → b < 256 → f b ≡ false
no-byte-at f b none below = false_from_ne_true (f b) (λ is. false≢true (sym none ∙ any-byte f b is below))

-- the bits of a row, word by word
pub row-bit : (row : Row) (at bit n : ℕ) → bit < 64 → bit_at (slice_index row.words at) bit ≡ n → has_bit row (at * 64 + bit) ≡ nat_eq n 1
row-bit row at bit n below is =
    let word : (at * 64 + bit) / 64 ≡ at = omega (arith, below) in
    let place : (at * 64 + bit) % 64 ≡ bit = omega (arith, below) in
    ap (λ w. nat_eq (bit_at (slice_index row.words w) ((at * 64 + bit) % 64)) 1) word
    ∙ ap (λ b. nat_eq (bit_at (slice_index row.words at) b) 1) place ∙ ap (λ b. nat_eq b 1) is

pub row-more : (row : Row) (at n : ℕ) (t : Bool) → nat_eq n 1 ≡ t → ((byte : ℕ) → byte < at * 64 → has_bit row byte ≡ t)
    → (k : ℕ) → ((bit : ℕ) → bit < k → bit_at (slice_index row.words at) bit ≡ n) → k ≤ 64 → (byte : ℕ) → byte < at * 64 + k → has_bit row byte ≡ t
row-more row at n t is before k bits most byte below = by_place (cases_lt byte (at * 64)) where
  by_place : (byte < at * 64) ⊎ (at * 64 ≤ byte) → has_bit row byte ≡ t
  by_place (inl under) = before byte under
  by_place (inr from) =
      let place : at * 64 + byte % 64 ≡ byte = omega (arith, from, below, most) in
      let within : byte % 64 < k = omega (arith, place, below) in
      subst (λ b. has_bit row b ≡ t) place (row-bit row at (byte % 64) n (omega arith) (bits (byte % 64) within) ∙ is)

-- a word that isn't 0 has a bit
pub word-some : (row : Row) (at : ℕ) → at < 4 → slice_index row.words at ≢ 0 → slice_index row.words at < 2 ^ 64 → any_byte (has_bit row) ≡ true
word-some row at below some fits =
    let lowest : (trailing_zeros w64 (slice_index row.words at) < 64) × (bit_at (slice_index row.words at) (trailing_zeros w64 (slice_index row.words at)) ≡ 1)
    × ((i : ℕ) → i < trailing_zeros w64 (slice_index row.words at) → bit_at (slice_index row.words at) i ≡ 0) =
    bit_at-trailing_zeros w64 (slice_index row.words at) (omega (arith, some)) fits in
    any-byte (has_bit row) (at * 64 + trailing_zeros w64 (slice_index row.words at))
    (row-bit row at (trailing_zeros w64 (slice_index row.words at)) 1 lowest.0 lowest.1) (omega (arith, below, lowest.0))

pub word-none : (row : Row) (at : ℕ) → slice_index row.words at ≡ 0 → (bit : ℕ) → bit < 64 → bit_at (slice_index row.words at) bit ≡ 0
word-none row at none bit below = ap (λ w. bit_at w bit) none ∙ bit_at-zero bit
