-- The lowest free lead is the first in byte order.
use Rattle.std.proofs.Common.{◌⊎◌, inl, inr, ◌≡◌, ℕ, zero, suc, ◌+◌, ◌*◌, ◌/◌, ◌%◌, ◌^◌, ◌<◌, ◌≤◌, Bool, true, false, Option, None, Some, List, [], ◌∷◌, length, refl, ap, subst, sym, ◌∙◌, arith}
use Rattle.std.proofs.Math.Nat.{add-mul-div_right, div-eq_of_lt, div-lt_iff_lt-mul, eq-or-lt_of_le, mod-eq_of_lt, mod-lt, mul-le-mul_right, one-le-pow, pow-suc}
use Rattle.std.proofs.lemmas.Bool.{cases_lt, false≢true}
use Rattle.std.proofs.lemmas.Nat.{div-add-mod', mul-add-lt}
use Rattle.std.specs.List.{AllByRecursion}
use Rattle.pool_history.specs.Spaces.{first_free, is_free, lowest, string_at}
use Rattle.history_laws.specs.Lowest.{ComesBefore, IsLowestFree, IsString, LowestIsLeast, NoneIsFree}
use Rattle.history_laws.proofs.Entrances.{none-some, some-same}
use Rattle.history_laws.proofs.Holding.{length-string_at}
use Rattle.history_laws.proofs.Legalities.{some-none}

-- a string is one of so many bytes at its place
abbrev pub place_of : List ℕ → ℕ
place_of [] = 0
place_of (byte ∷ bytes) = byte * 256 ^ length bytes + place_of bytes

pub some-strings : (len : ℕ) → 0 < 256 ^ len
some-strings len = let least : 1 ≤ 256 ^ len = one-le-pow len 256 (omega arith) in omega (arith, least)

pub place-below : (bytes : List ℕ) → AllByRecursion (λ byte. byte < 256) bytes → place_of bytes < 256 ^ length bytes
place-below [] each = omega arith
place-below (byte ∷ bytes) each =
    let deeper : place_of bytes < 256 ^ length bytes = place-below bytes each.1 in
    let whole : byte * 256 ^ length bytes + place_of bytes < 256 ^ length bytes * 256 = mul-add-lt byte (256 ^ length bytes) (place_of bytes) 256 each.0 deeper in
    let more : 256 ^ suc (length bytes) ≡ 256 ^ length bytes * 256 = pow-suc 256 (length bytes) in
    omega (arith, whole, more)

-- a place beyond the last string counts from the first again
pub string-again : (len k place : ℕ) → string_at len (place + k * 256 ^ len) ≡ string_at len place
string-again zero k place = refl
string-again (suc len) k place =
    let more : 256 ^ suc len ≡ 256 ^ len * 256 = pow-suc 256 len in
    let same : place + k * 256 ^ suc len ≡ place + k * 256 * 256 ^ len = rw more (omega arith) in
    let over : (place + k * 256 * 256 ^ len) / 256 ^ len ≡ place / 256 ^ len + k * 256 = add-mul-div_right place (k * 256) (some-strings len) in
    let byte : (place / 256 ^ len + k * 256) % 256 ≡ place / 256 ^ len % 256 = omega arith in
    ap (string_at (suc len)) same
    ∙ ap (λ b. b % 256 ∷ string_at len (place + k * 256 * 256 ^ len)) over
    ∙ ap (λ b. b ∷ string_at len (place + k * 256 * 256 ^ len)) byte
    ∙ ap (λ s. place / 256 ^ len % 256 ∷ s) (string-again len (k * 256) place)

-- each string stands at its place
pub string-placed : (len : ℕ) (bytes : List ℕ) → length bytes ≡ len → AllByRecursion (λ byte. byte < 256) bytes → string_at len (place_of bytes) ≡ bytes
string-placed zero [] long each = refl
string-placed zero (byte ∷ bytes) long each = absurd (omega (arith, long))
string-placed (suc len) [] long each = absurd (omega (arith, long))
string-placed (suc len) (byte ∷ bytes) long each =
    let shorter : length bytes ≡ len = omega (arith, long) in
    let below : place_of bytes < 256 ^ length bytes = place-below bytes each.1 in
    let within : place_of bytes < 256 ^ len = subst (λ n. place_of bytes < 256 ^ n) shorter below in
    let turned : byte * 256 ^ length bytes + place_of bytes ≡ place_of bytes + byte * 256 ^ len = rw shorter (omega arith) in
    let over : (place_of bytes + byte * 256 ^ len) / 256 ^ len ≡ place_of bytes / 256 ^ len + byte = add-mul-div_right (place_of bytes) byte (some-strings len) in
    let none : place_of bytes / 256 ^ len ≡ 0 = div-eq_of_lt within in
    let head : place_of bytes / 256 ^ len + byte ≡ byte = omega (arith, none) in
    ap (string_at (suc len)) turned
    ∙ ap (λ b. b % 256 ∷ string_at len (place_of bytes + byte * 256 ^ len)) (over ∙ head)
    ∙ ap (λ b. b ∷ string_at len (place_of bytes + byte * 256 ^ len)) (mod-eq_of_lt each.0)
    ∙ ap (λ s. byte ∷ s) (string-again len byte (place_of bytes) ∙ string-placed len bytes shorter each.1)

-- and at each place stands a string
pub string-bytes : (len place : ℕ) → AllByRecursion (λ byte. byte < 256) (string_at len place)
string-bytes zero place = tt
string-bytes (suc len) place = let some : 0 < 256 = omega arith in (mod-lt (place / 256 ^ len) some, string-bytes len place)

pub is-string : (len place : ℕ) → IsString len (string_at len place)
is-string len place = record { long = length-string_at len place; each = string-bytes len place }

pub placed-string : (len place : ℕ) → place < 256 ^ len → place_of (string_at len place) ≡ place
placed-string zero place below = omega (arith, below)
placed-string (suc len) place below =
    let more : 256 ^ suc len ≡ 256 ^ len * 256 = pow-suc 256 len in
    let within : place < 256 * 256 ^ len = omega (arith, below, more) in
    let first : place / 256 ^ len < 256 = (div-lt_iff_lt-mul (some-strings len)).1 within in
    let byte : place / 256 ^ len % 256 ≡ place / 256 ^ len = mod-eq_of_lt first in
    let parts : place / 256 ^ len * 256 ^ len + place % 256 ^ len ≡ place = div-add-mod' place (256 ^ len) in
    let rest : string_at len place ≡ string_at len (place % 256 ^ len) =
    ap (string_at len) (sym parts ∙ (omega arith)) ∙ string-again len (place / 256 ^ len) (place % 256 ^ len) in
    let deeper : place_of (string_at len (place % 256 ^ len)) ≡ place % 256 ^ len = placed-string len (place % 256 ^ len) (mod-lt place (some-strings len)) in
    ap (λ n. place / 256 ^ len % 256 * 256 ^ n + place_of (string_at len place)) (length-string_at len place)
    ∙ ap (λ b. b * 256 ^ len + place_of (string_at len place)) byte
    ∙ ap (λ n. place / 256 ^ len * 256 ^ len + n) (ap place_of rest ∙ deeper)
    ∙ parts

-- byte order is that of the places
pub before-below : (a b : List ℕ) → length a ≡ length b → AllByRecursion (λ byte. byte < 256) a → ComesBefore a b → place_of a < place_of b
before-below [] b long each before = elim before [ ]
before-below (x ∷ xs) [] long each before = elim before [ ]
before-below (x ∷ xs) (y ∷ ys) long each (inl lower) =
    let same : length xs ≡ length ys = omega (arith, long) in
    let below : place_of xs < 256 ^ length xs = place-below xs each.1 in
    let next : (x + 1) * 256 ^ length xs ≤ y * 256 ^ length xs = mul-le-mul_right (256 ^ length xs) (omega (arith, lower)) in
    let right : y * 256 ^ length xs ≡ y * 256 ^ length ys = ap (λ n. y * 256 ^ n) same in
    omega (arith, below, next, right)
before-below (x ∷ xs) (y ∷ ys) long each (inr (heads, before)) =
    let same : length xs ≡ length ys = omega (arith, long) in
    let deeper : place_of xs < place_of ys = before-below xs ys same each.1 before in
    let front : x * 256 ^ length xs ≡ y * 256 ^ length ys = ap (λ n. n * 256 ^ length xs) heads ∙ ap (λ n. y * 256 ^ n) same in
    omega (arith, deeper, front)

-- two strings of a length are the same, or one comes before the other
pub compared : (x y : ℕ) → (x < y) ⊎ ((x ≡ y) ⊎ (y < x))
compared x y = by_less (cases_lt x y) where
  by_same : (y ≡ x) ⊎ (y < x) → (x < y) ⊎ ((x ≡ y) ⊎ (y < x))
  by_same (inl same) = inr (inl (sym same))
  by_same (inr higher) = inr (inr higher)

  by_less : (x < y) ⊎ (y ≤ x) → (x < y) ⊎ ((x ≡ y) ⊎ (y < x))
  by_less (inl lower) = inl lower
  by_less (inr most) = by_same (eq-or-lt_of_le most)

pub in-order : (a b : List ℕ) → length a ≡ length b → (a ≡ b) ⊎ (ComesBefore a b ⊎ ComesBefore b a)
in-order [] [] long = inl refl
in-order [] (y ∷ ys) long = absurd (omega (arith, long))
in-order (x ∷ xs) [] long = absurd (omega (arith, long))
in-order (x ∷ xs) (y ∷ ys) long = by_head (compared x y) (in-order xs ys (omega (arith, long))) where
  by_head : (x < y) ⊎ ((x ≡ y) ⊎ (y < x)) → (xs ≡ ys) ⊎ (ComesBefore xs ys ⊎ ComesBefore ys xs)
      → (x ∷ xs ≡ y ∷ ys) ⊎ (ComesBefore (x ∷ xs) (y ∷ ys) ⊎ ComesBefore (y ∷ ys) (x ∷ xs))
  by_head (inl lower) rest = inr (inl (inl lower))
  by_head (inr (inr higher)) rest = inr (inr (inl higher))
  by_head (inr (inl same)) (inl tails) = inl cc
  by_head (inr (inl same)) (inr (inl before)) = inr (inl (inr (same, before)))
  by_head (inr (inl same)) (inr (inr after)) = inr (inr (inr (sym same, after)))

-- what is found stands at the first place that is free
pub record IsFirst (len : ℕ) (held : List (List ℕ)) (place more : ℕ) (lead : List ℕ) : Type 0 where
  pub at : ℕ
  pub from : place ≤ at
  pub until : at < place + more
  pub is : string_at len at ≡ lead
  pub free : is_free held (string_at len at) ≡ true
  pub least : (other : ℕ) → place ≤ other → other < at → is_free held (string_at len other) ≡ false

pub here-or-later : (place other : ℕ) → place ≤ other → (place ≡ other) ⊎ (suc place ≤ other)
here-or-later place other from = by_same (eq-or-lt_of_le from) where
  by_same : (place ≡ other) ⊎ (place < other) → (place ≡ other) ⊎ (suc place ≤ other)
  by_same (inl same) = inl same
  by_same (inr after) = inr (omega (arith, after))

pub taken-here : (len : ℕ) (held : List (List ℕ)) (place other : ℕ) → is_free held (string_at len place) ≡ false → place ≤ other
    → (suc place ≤ other → is_free held (string_at len other) ≡ false) → is_free held (string_at len other) ≡ false
taken-here len held place other taken from later = by_place (here-or-later place other from) where
  by_place : (place ≡ other) ⊎ (suc place ≤ other) → is_free held (string_at len other) ≡ false
  by_place (inl here) = subst (λ p. is_free held (string_at len p) ≡ false) here taken
  by_place (inr after) = later after

pub found-first : (len : ℕ) (held : List (List ℕ)) (place more : ℕ) (lead : List ℕ) → first_free len held place more ≡ Some lead → IsFirst len held place more lead
unfolding first_free
found-first len held place zero lead is = absurd (none-some is)
found-first len held place (suc more) lead is =
    by_test (is_free held (string_at len place)) refl is (λ found. found-first len held (suc place) more lead found) where
      by_test : (b : Bool) → is_free held (string_at len place) ≡ b
          → elim b as (λ c. Option (List ℕ)) [ true ↦ Some (string_at len place) | false ↦ first_free len held (suc place) more ] ≡ Some lead
          → (first_free len held (suc place) more ≡ Some lead → IsFirst len held (suc place) more lead) → IsFirst len held place (suc more) lead
      by_test true free found later = record {
        at = place;
        from = omega arith;
        until = omega arith;
        is = some-same found;
        free = free;
        least = λ other from below. absurd (omega (arith, from, below));
      }
      by_test false taken found later =
          let f : IsFirst len held (suc place) more lead = later found in
          let from : suc place ≤ f.at = f.from in
          let until : f.at < suc place + more = f.until in
          record {
            at = f.at;
            from = omega (arith, from);
            until = omega (arith, until);
            is = f.is;
            free = f.free;
            least = λ other from below. taken-here len held place other taken from (λ after. f.least other after below);
          }

pub found-none : (len : ℕ) (held : List (List ℕ)) (place more : ℕ) → first_free len held place more ≡ None
    → (other : ℕ) → place ≤ other → other < place + more → is_free held (string_at len other) ≡ false
unfolding first_free
found-none len held place zero is other from until = absurd (omega (arith, from, until))
found-none len held place (suc more) is other from until =
    by_test (is_free held (string_at len place)) refl is
    (λ none after. found-none len held (suc place) more none other after (omega (arith, until))) where
      by_test : (b : Bool) → is_free held (string_at len place) ≡ b
          → elim b as (λ c. Option (List ℕ)) [ true ↦ Some (string_at len place) | false ↦ first_free len held (suc place) more ] ≡ None
          → (first_free len held (suc place) more ≡ None → suc place ≤ other → is_free held (string_at len other) ≡ false)
          → is_free held (string_at len other) ≡ false
      by_test true free found later = absurd (some-none found)
      by_test false taken found later = taken-here len held place other taken from (λ after. later found after)

-- so it is the lowest
pub found-lowest : (len : ℕ) (held : List (List ℕ)) (lead : List ℕ) → lowest len held ≡ Some lead → IsLowestFree len held lead
found-lowest len held lead found =
    let f : IsFirst len held 0 (256 ^ len) lead = found-first len held 0 (256 ^ len) lead found in
    let until : f.at < 0 + 256 ^ len = f.until in
    let placed : place_of (string_at len f.at) ≡ f.at = placed-string len f.at (omega (arith, until)) in
    record {
      is_string = subst (IsString len) f.is (is-string len f.at);
      free = subst (λ l. is_free held l ≡ true) f.is f.free;
      least = λ other s before.
          let long : length other ≡ length lead = s.long ∙ sym (length-string_at len f.at) ∙ ap length f.is in
          let below : place_of other < place_of lead = before-below other lead long s.each before in
          let here : place_of lead ≡ f.at = ap place_of (sym f.is) ∙ placed in
          subst (λ l. is_free held l ≡ false) (string-placed len other s.long s.each)
          (f.least (place_of other) (omega arith) (omega (arith, below, here)));
    }

pub none-free : (len : ℕ) (held : List (List ℕ)) → lowest len held ≡ None → NoneIsFree len held
none-free len held none lead s =
    let below : place_of lead < 256 ^ length lead = place-below lead s.each in
    let within : place_of lead < 256 ^ len = subst (λ n. place_of lead < 256 ^ n) s.long below in
    subst (λ l. is_free held l ≡ false) (string-placed len lead s.long s.each)
    (found-none len held 0 (256 ^ len) none (place_of lead) (omega arith) (omega (arith, within)))

-- and there is no other
pub one-lowest : (len : ℕ) (held : List (List ℕ)) (a b : List ℕ) → IsLowestFree len held a → IsLowestFree len held b → a ≡ b
one-lowest len held a b p q = by_order (in-order a b (p.is_string.long ∙ sym q.is_string.long)) where
  by_order : (a ≡ b) ⊎ (ComesBefore a b ⊎ ComesBefore b a) → a ≡ b
  by_order (inl same) = same
  by_order (inr (inl before)) = absurd (false≢true (sym (q.least a p.is_string before) ∙ p.free))
  by_order (inr (inr after)) = absurd (false≢true (sym (p.least b q.is_string after) ∙ q.free))

pub lowest-found : (len : ℕ) (held : List (List ℕ)) (lead : List ℕ) → IsLowestFree len held lead → lowest len held ≡ Some lead
lowest-found len held lead p = by_result (lowest len held) refl where
  by_result : (o : Option (List ℕ)) → lowest len held ≡ o → lowest len held ≡ Some lead
  by_result None none = absurd (false≢true (sym (none-free len held none lead p.is_string) ∙ p.free))
  by_result (Some other) found = found ∙ ap (λ l. Some l) (one-lowest len held other lead (found-lowest len held other found) p)

pub free-none : (len : ℕ) (held : List (List ℕ)) → NoneIsFree len held → lowest len held ≡ None
free-none len held none = by_result (lowest len held) refl where
  by_result : (o : Option (List ℕ)) → lowest len held ≡ o → lowest len held ≡ None
  by_result None is = is
  by_result (Some lead) found =
      let l : IsLowestFree len held lead = found-lowest len held lead found in
      absurd (false≢true (sym (none lead l.is_string) ∙ l.free))

pub lowest-least : LowestIsLeast
lowest-least len held = record {
  found = λ lead. (found-lowest len held lead, lowest-found len held lead);
  none = (none-free len held, free-none len held);
}
