-- Where the first line feed of some bytes is.
use Rattle.std.proofs.Common.{◌≡◌, ℕ, ◌+◌, ◌<◌, ◌≤◌, Bool, true, false, ◌||◌, ◌==◌, cond, min, Some, None, List, [], ◌∷◌, ◌++◌, length, get_or, take, drop, refl, sym, ap, ◌∙◌, zero, suc, zero-add, inl, inr, arith}
use Rattle.std.specs.Prelude.{not, position}
use Rattle.std.specs.List.{position_or_len}
use Rattle.std.proofs.lemmas.Bool.{cases_lt, le-ltb, lt-ltb}
use Rattle.std.proofs.lemmas.Bool.Decides.{nat_tests}
use Rattle.std.proofs.lemmas.List.Sums.{split_at_first, passes_at_first, fails_before_first}
use Rattle.v1_lines.specs.Lines.{is_line_feed, has_line_feed}

abbrev pub place : List ℕ → ℕ
place bytes = position_or_len is_line_feed bytes

pub place-le-length : (bytes : List ℕ) → place bytes ≤ length bytes
place-le-length [] = omega arith
place-le-length (x ∷ bytes) =
    let more = place-le-length bytes in
    elim (x == 10) as (λ b. cond (not b) (1 + place bytes) 0 ≤ length (x ∷ bytes)) [ true ↦ omega arith | false ↦ omega arith ]

-- bytes without a line feed
pub place-behind : (bytes more : List ℕ) → has_line_feed bytes ≡ false → place (bytes ++ more) ≡ length bytes + place more
place-behind [] more none = sym (zero-add (place more))
place-behind (x ∷ bytes) more none =
    elim (x == 10) as (λ b. (b || has_line_feed bytes) ≡ false → cond (not b) (1 + place (bytes ++ more)) 0 ≡ length (x ∷ bytes) + place more) [
      | true ↦ λ wrong. cc
      | false ↦ λ rest. let behind = place-behind bytes more rest in omega arith
    ] none

pub place-none : (bytes : List ℕ) → has_line_feed bytes ≡ false → place bytes ≡ length bytes
place-none [] none = refl
place-none (x ∷ bytes) none =
    elim (x == 10) as (λ b. (b || has_line_feed bytes) ≡ false → cond (not b) (1 + place bytes) 0 ≡ length (x ∷ bytes)) [
      | true ↦ λ wrong. cc
      | false ↦ λ rest. let behind = place-none bytes rest in omega arith
    ] none

-- a line feed is there exactly where its place is within the bytes
pub none-place : (bytes : List ℕ) → place bytes ≡ length bytes → has_line_feed bytes ≡ false
none-place [] all = refl
none-place (x ∷ bytes) all =
    elim (x == 10) as (λ b. cond (not b) (1 + place bytes) 0 ≡ length (x ∷ bytes) → (b || has_line_feed bytes) ≡ false) [
      | true ↦ λ wrong. absurd (omega arith)
      | false ↦ λ rest. none-place bytes (omega arith)
    ] all

-- what follows the first line feed doesn't matter
pub place-front : (bytes more : List ℕ) → place bytes < length bytes → place (bytes ++ more) ≡ place bytes
place-front [] more there = absurd (omega arith)
place-front (x ∷ bytes) more there =
    elim (x == 10) as (λ b. cond (not b) (1 + place bytes) 0 < length (x ∷ bytes)
    → cond (not b) (1 + place (bytes ++ more)) 0 ≡ cond (not b) (1 + place bytes) 0) [
      | true ↦ λ here. refl
      | false ↦ λ rest. ap (λ n. 1 + n) (place-front bytes more (omega arith))
    ] there

-- a front of bytes
pub place-take : (n : ℕ) (bytes : List ℕ) → place (take n bytes) ≡ min n (place bytes)
place-take zero bytes = omega arith
place-take (suc n) [] = omega arith
place-take (suc n) (x ∷ bytes) =
    let more = place-take n bytes in
    elim (x == 10) as (λ b. cond (not b) (1 + place (take n bytes)) 0 ≡ min (suc n) (cond (not b) (1 + place bytes) 0)) [
      | true ↦ omega arith
      | false ↦ omega arith
    ]

-- what stands at the place is a line feed
pub split_at_place : (bytes : List ℕ) → place bytes < length bytes
    → bytes ≡ take (place bytes) bytes ++ 10 ∷ drop (place bytes + 1) bytes
split_at_place bytes there =
    let passes : (get_or bytes (place bytes) 0 == 10) ≡ true = passes_at_first is_line_feed bytes 0 there in
    let same : get_or bytes (place bytes) 0 ≡ 10 = grind (arith, nat_tests) in
    split_at_first is_line_feed bytes 0 there ∙ ap (λ (y : ℕ). take (place bytes) bytes ++ y ∷ drop (place bytes + 1) bytes) same

-- and nothing before it is one
pub feed_at_place : (bytes : List ℕ) (k : ℕ) → k < length bytes → get_or bytes k 0 ≡ 10 → place bytes ≤ k
feed_at_place bytes k there same =
    elim (cases_lt k (place bytes)) [
      | inl before ↦
          let fails : (get_or bytes k 0 == 10) ≡ false = fails_before_first is_line_feed bytes k 0 before in
          absurd (grind (arith, nat_tests))
      | inr behind ↦ behind
    ]

pub feed_there : (bytes : List ℕ) → place bytes < length bytes → get_or bytes (place bytes) 0 ≡ 10
feed_there bytes there =
    let passes : (get_or bytes (place bytes) 0 == 10) ≡ true = passes_at_first is_line_feed bytes 0 there in
    grind (arith, nat_tests)

-- what `position` finds
pub position-some : (bytes : List ℕ) (n : ℕ) → Some n ≡ position is_line_feed bytes → (place bytes ≡ n) × (place bytes < length bytes)
position-some bytes n found =
    elim (cases_lt (place bytes) (length bytes)) [
      | inl there ↦
          let same : Some n ≡ Some (place bytes) = rw (lt-ltb (place bytes) (length bytes) there) at found in
          (cc, there)
      | inr past ↦
          let same : Some n ≡ None = rw (le-ltb (place bytes) (length bytes) past) at found in
          cc
    ]

pub position-none : (bytes : List ℕ) → None ≡ position is_line_feed bytes → place bytes ≡ length bytes
position-none bytes found =
    elim (cases_lt (place bytes) (length bytes)) [
      | inl there ↦
          let same = rw (lt-ltb (place bytes) (length bytes) there) at found in
          cc same
      | inr past ↦ omega (arith, place-le-length bytes)
    ]
