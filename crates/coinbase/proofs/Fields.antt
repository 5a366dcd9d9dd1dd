-- A field that is read is the field that was written, and what was written is read again.
use Rattle.std.proofs.Common.{◌≡◌, ℕ, zero, suc, ◌+◌, ◌^◌, ◌<◌, ◌≤◌, ◌⊎◌, inl, inr, Bool, true, false, cond, ltb, eqb, List, [], ◌∷◌, ◌++◌, length, get_or, take, drop, Result, Ok, Err, refl, sym, ap, subst, ◌∙◌, append_assoc, arith}
use Rattle.std.specs.Int.{Width, w8, w16, w32, w64, byte_len, from_le_bytes, to_le_bytes}
use Rattle.std.specs.List.{flat_map, AllByRecursion}
use Rattle.std.proofs.lemmas.Bool.{cases_lt, ltb-true, ltb-false, lt-ltb, le-ltb, eqb-true, eqb-false}
use Rattle.std.proofs.lemmas.List.{take_at, drop_at, take-append-drop, length-append, length-take-le, length-drop, get_or-drop, get_or_past, get_or_append_left, get_or-append-add}
use Rattle.std.proofs.lemmas.Nat.{le_bytes_2, le_bytes_4, le_bytes_8, from_le_bytes-to_le_bytes_2, from_le_bytes-to_le_bytes_4, from_le_bytes-to_le_bytes_8}
use Rattle.coinbase.specs.declared.error.TxError.{TxError}
use Rattle.coinbase.specs.declared.error.TxError.TheVariants.{Short, LongSize}
use Rattle.coinbase.specs.Compact.{compact, sized_bytes}
use Rattle.coinbase.specs.Form.{counted_bytes}
use Rattle.pool_base.specs.Results.{◌>>=◌}
use Rattle.coinbase.specs.Reading.{Place, bytes_at, number_at, marked_at, compact_at, sized_at, many_at, counted_at}

-- each is a byte
abbrev pub AreBytes : List ℕ → Type 0
AreBytes bytes = (i : ℕ) → get_or bytes i 0 < 256

-- ---- steps

-- the value of a step that did not fail
pub bind_ok : {A B : Type 0} (r : Result A TxError) (f : A → Result B TxError) (y : B) → (r >>= f) ≡ Ok y → (x : A) × (r ≡ Ok x) × (f x ≡ Ok y)
bind_ok (Ok x) f y e = (x, refl, e)
bind_ok (Err d) f y e = absurd cc

-- the same, for what follows from it
pub bind_case : {A B C E : Type 0} (r : Result A E) (f : A → Result B E) (y : B) → (r >>= f) ≡ Ok y → ((x : A) → r ≡ Ok x → f x ≡ Ok y → C) → C
bind_case (Ok x) f y e k = k x refl e
bind_case (Err d) f y e k = absurd cc

-- a test that did not fail
pub guard_ok : {A E : Type 0} (b : Bool) (d : E) (x y : A) → cond b (Err d) (Ok x) ≡ Ok y → (b ≡ false) × (x ≡ y)
guard_ok true d x y e = absurd cc
guard_ok false d x y e = (refl, cc)

pub guard_held : {A E : Type 0} (b : Bool) (d : E) (r : Result A E) (y : A) → cond b r (Err d) ≡ Ok y → (b ≡ true) × (r ≡ Ok y)
guard_held true d r y e = (refl, e)
guard_held false d r y e = absurd cc

-- which way a choice went
pub chosen : {A : Type 0} (b : Bool) (x y z : A) → cond b x y ≡ z → ((b ≡ true) × (x ≡ z)) ⊎ ((b ≡ false) × (y ≡ z))
chosen true x y z e = inl (refl, e)
chosen false x y z e = inr (refl, e)

abbrev done : {A : Type 0} → A → Result A TxError
done x = Ok x

pub ok_is : {A : Type 0} (x y : A) → done x ≡ done y → x ≡ y
ok_is x y e = cc

-- ---- places

pub same_place : (p q : Place) → p.at ≡ q.at → p.left ≡ q.left → p ≡ q
same_place p q at left =
    let one : p ≡ record { at = q.at; left = p.left } = ap (λ n. record p { at = n }) at in
    let two : record { at = q.at; left = p.left } ≡ q = ap (λ (l : List ℕ). record { at = q.at; left = l }) left in
    one ∙ two

-- a text was taken from the front
pub record Took (p q : Place) (text : List ℕ) : Type 0 where
  pub parts : p.left ≡ text ++ q.left
  pub at : q.at ≡ p.at + length text

pub Took-then : (p q r : Place) (a b : List ℕ) → Took p q a → Took q r b → Took p r (a ++ b)
Took-then p q r a b one two = record {
  parts = one.parts ∙ ap (λ (t : List ℕ). a ++ t) two.parts ∙ sym (append_assoc a b r.left);
  at = omega (arith, one.at, two.at, length-append a b);
}

-- where the first of two texts ends
abbrev pub between : Place → Place → List ℕ → List ℕ → Place
between p r a b = record { at = p.at + length a; left = b ++ r.left }

pub Took-first : (p r : Place) (a b : List ℕ) → Took p r (a ++ b) → Took p (between p r a b) a
Took-first p r a b both = record { parts = both.parts ∙ append_assoc a b r.left; at = refl }

pub Took-second : (p r : Place) (a b : List ℕ) → Took p r (a ++ b) → Took (between p r a b) r b
Took-second p r a b both = record { parts = refl; at = omega (arith, both.at, length-append a b) }

pub AreBytes-rest : (p q : Place) (text : List ℕ) → AreBytes p.left → Took p q text → AreBytes q.left
AreBytes-rest p q text bytes took i =
    subst (λ b. b < 256) (ap (λ l. get_or l (length text + i) 0) took.parts ∙ get_or-append-add text q.left i 0) (bytes (length text + i))

pub AreBytes-front : (p q : Place) (text : List ℕ) → AreBytes p.left → Took p q text → AreBytes text
AreBytes-front p q text bytes took i =
    elim (cases_lt i (length text)) [
      | inl inside ↦ subst (λ b. b < 256) (ap (λ l. get_or l i 0) took.parts ∙ get_or_append_left text q.left 0 i inside) (bytes i)
      | inr past ↦ rw (get_or_past text i 0 past) (omega arith)
    ]

-- ---- readers

-- what a reader takes is what was spelled, and what is spelled it takes
pub record IsReader {X : Type 0} (read : Place → Result (X × Place) TxError) (spell : X → List ℕ) (Fits : X → Type 0) : Type 0 where
  pub found : (p q : Place) (x : X) → AreBytes p.left → read p ≡ Ok (x, q) → Took p q (spell x) × Fits x
  pub only : (p q : Place) (x : X) → Fits x → Took p q (spell x) → read p ≡ Ok (x, q)

pub bytes_found : (n : ℕ) (p q : Place) (x : List ℕ) → bytes_at n p ≡ Ok (x, q) → Took p q x × (length x ≡ n)
bytes_found n p q x e =
    let g = guard_ok (ltb (length p.left) n) (Short p.at) (take n p.left, record { at = p.at + n; left = drop n p.left }) (x, q) e in
    let long : n ≤ length p.left = ltb-false _ _ g.0 in
    let len : length (take n p.left) ≡ n = length-take-le n p.left long in
    let taken : Took p (record { at = p.at + n; left = drop n p.left }) (take n p.left) = record { parts = sym (take-append-drop n p.left); at = omega (arith, len) } in
    subst (λ (y : List ℕ × Place). Took p y.1 y.0 × (length y.0 ≡ n)) g.1 (taken, len)

pub bytes_only : (n : ℕ) (p q : Place) (x : List ℕ) → length x ≡ n → Took p q x → bytes_at n p ≡ Ok (x, q)
bytes_only n p q x len took =
    let whole : length p.left ≡ length x + length q.left = ap length took.parts ∙ length-append x q.left in
    let long : ltb (length p.left) n ≡ false = le-ltb _ _ (omega arith) in
    let front : take n p.left ≡ x = ap (take n) took.parts ∙ take_at x q.left n len in
    let back : drop n p.left ≡ q.left = ap (drop n) took.parts ∙ drop_at x q.left n len in
    let place : record { at = p.at + n; left = drop n p.left } ≡ q = same_place (record { at = p.at + n; left = drop n p.left }) q (omega (arith, took.at)) back in
    rw (long, front, place) refl

pub bytes_reader : (n : ℕ) → IsReader (bytes_at n) (λ x. x) (λ x. length x ≡ n)
bytes_reader n = record { found = λ p q x bytes e. bytes_found n p q x e; only = λ p q x fits took. bytes_only n p q x fits took }

-- ---- numbers

pub record IsWide (w : Width) (limit : ℕ) : Type 0 where
  pub len : (n : ℕ) → length (to_le_bytes w n) ≡ byte_len w
  pub back : (bytes : List ℕ) → length bytes ≡ byte_len w → AreBytes bytes → to_le_bytes w (from_le_bytes w bytes) ≡ bytes
  pub again : (n : ℕ) → n < limit → from_le_bytes w (to_le_bytes w n) ≡ n
  pub below : (bytes : List ℕ) → AreBytes bytes → from_le_bytes w bytes < limit

one_byte : (bytes : List ℕ) → length bytes ≡ 1 → AreBytes bytes → to_le_bytes w8 (from_le_bytes w8 bytes) ≡ bytes
one_byte [] len fits = absurd (omega arith)
one_byte (b ∷ []) len fits = ap (λ x. x ∷ []) (omega (arith, fits 0))
one_byte (b ∷ c ∷ bs) len fits = absurd (omega arith)

pub wide8 : IsWide w8 256
wide8 = record { len = λ n. refl; back = one_byte; again = λ n lt. omega arith; below = λ bytes fits. omega (arith, fits 0) }

pub wide16 : IsWide w16 (2 ^ 16)
wide16 = record {
  len = λ n. refl;
  back = λ bytes len fits. le_bytes_2 bytes _ len fits refl;
  again = λ n lt. from_le_bytes-to_le_bytes_2 n lt;
  below = λ bytes fits. omega (arith, fits 0, fits 1);
}

pub wide32 : IsWide w32 (2 ^ 32)
wide32 = record {
  len = λ n. refl;
  back = λ bytes len fits. le_bytes_4 bytes _ len fits refl;
  again = λ n lt. from_le_bytes-to_le_bytes_4 n lt;
  below = λ bytes fits. omega (arith, fits 0, fits 1, fits 2, fits 3);
}

pub wide64 : IsWide w64 (2 ^ 64)
wide64 = record {
  len = λ n. refl;
  back = λ bytes len fits. le_bytes_8 bytes _ len fits refl;
  again = λ n lt. from_le_bytes-to_le_bytes_8 n lt;
  below = λ bytes fits. omega (arith, fits 0, fits 1, fits 2, fits 3, fits 4, fits 5, fits 6, fits 7);
}

number_found : (w : Width) (limit : ℕ) → IsWide w limit → (p q : Place) (n : ℕ) → AreBytes p.left → number_at w p ≡ Ok (n, q) → Took p q (to_le_bytes w n) × (n < limit)
unfolding number_at
number_found w limit wide p q n bytes e =
    bind_case (bytes_at (byte_len w) p) (λ bytes. Ok (from_le_bytes w bytes.0, bytes.1)) (n, q) e (λ b step rest.
    let taken = bytes_found (byte_len w) p b.1 b.0 step in
    let front : AreBytes b.0 = AreBytes-front p b.1 b.0 bytes taken.0 in
    let spelled : Took p b.1 (to_le_bytes w (from_le_bytes w b.0)) = rw (wide.back b.0 taken.1 front) taken.0 in
    subst (λ (y : ℕ × Place). Took p y.1 (to_le_bytes w y.0) × (y.0 < limit)) (ok_is (from_le_bytes w b.0, b.1) (n, q) rest) (spelled, wide.below b.0 front))

number_only : (w : Width) (limit : ℕ) → IsWide w limit → (p q : Place) (n : ℕ) → n < limit → Took p q (to_le_bytes w n) → number_at w p ≡ Ok (n, q)
unfolding number_at
number_only w limit wide p q n lt took =
    rw (bytes_only (byte_len w) p q (to_le_bytes w n) (wide.len n) took, wide.again n lt) refl

pub number_reader : (w : Width) (limit : ℕ) → IsWide w limit → IsReader (number_at w) (to_le_bytes w) (λ n. n < limit)
number_reader w limit wide = record { found = number_found w limit wide; only = number_only w limit wide }

-- ---- compact sizes

byte_alone : (n : ℕ) → n < 256 → to_le_bytes w8 n ≡ n ∷ []
byte_alone n lt = ap (λ x. x ∷ []) (omega arith)

pub compact_small : (n : ℕ) → n < 253 → compact n ≡ n ∷ []
unfolding compact
compact_small n small = rw (lt-ltb n 253 small) refl

compact-3 : (n : ℕ) → 253 ≤ n → n < 2 ^ 16 → compact n ≡ 253 ∷ to_le_bytes w16 n
unfolding compact
compact-3 n large small = rw (le-ltb n 253 large, lt-ltb n 65536 small) refl

compact-5 : (n : ℕ) → 2 ^ 16 ≤ n → n < 2 ^ 32 → compact n ≡ 254 ∷ to_le_bytes w32 n
unfolding compact
compact-5 n large small = rw (le-ltb n 253 (omega arith), le-ltb n 65536 large, lt-ltb n 4294967296 small) refl

compact-9 : (n : ℕ) → 2 ^ 32 ≤ n → compact n ≡ 255 ∷ to_le_bytes w64 n
unfolding compact
compact-9 n large = rw (le-ltb n 253 (omega arith), le-ltb n 65536 (omega arith), le-ltb n 4294967296 large) refl

-- the byte where a mark stands
first_byte : (p q : Place) (n : ℕ) → n < 256 → Took p q (to_le_bytes w8 n) → get_or p.left 0 0 ≡ n
first_byte p q n lt took =
    let alone : Took p q (n ∷ []) = subst (Took p q) (byte_alone n lt) took in
    ap (λ l. get_or l 0 0) alone.parts

first_and_rest : (bytes : List ℕ) → 0 < length bytes → bytes ≡ get_or bytes 0 0 ∷ drop 1 bytes
first_and_rest [] some = absurd (omega arith)
first_and_rest (b ∷ bs) some = refl

marked_found : (w : Width) (limit : ℕ) → IsWide w limit → (least mark : ℕ) (p q : Place) (n : ℕ) → AreBytes p.left → get_or p.left 0 0 ≡ mark →
    marked_at w least p ≡ Ok (n, q) → Took p q (mark ∷ to_le_bytes w n) × (least ≤ n) × (n < limit)
unfolding marked_at
marked_found w limit wide least mark p q n bytes is_mark e =
    bind_case (bytes_at (1 + byte_len w) p) (λ b. cond (ltb (from_le_bytes w (drop 1 b.0)) least) (Err (LongSize p.at)) (Ok (from_le_bytes w (drop 1 b.0), b.1))) (n, q) e (λ b step rest.
    let taken = bytes_found (1 + byte_len w) p b.1 b.0 step in
    let g = guard_ok (ltb (from_le_bytes w (drop 1 b.0)) least) (LongSize p.at) (from_le_bytes w (drop 1 b.0), b.1) (n, q) rest in
    let front : AreBytes b.0 = AreBytes-front p b.1 b.0 bytes taken.0 in
    let tail : AreBytes (drop 1 b.0) = λ i. subst (λ x. x < 256) (sym (get_or-drop 1 b.0 i 0)) (front (1 + i)) in
    let len : length (drop 1 b.0) ≡ byte_len w = omega (arith, length-drop 1 b.0, taken.1) in
    let head : get_or b.0 0 0 ≡ mark = sym (get_or_append_left b.0 b.1.left 0 0 (omega (arith, taken.1))) ∙ sym (ap (λ l. get_or l 0 0) taken.0.parts) ∙ is_mark in
    let text : b.0 ≡ mark ∷ to_le_bytes w (from_le_bytes w (drop 1 b.0)) =
    first_and_rest b.0 (omega (arith, taken.1)) ∙ ap (λ x. x ∷ drop 1 b.0) head ∙ ap (λ l. mark ∷ l) (sym (wide.back (drop 1 b.0) len tail)) in
    subst (λ (y : ℕ × Place). Took p y.1 (mark ∷ to_le_bytes w y.0) × (least ≤ y.0) × (y.0 < limit)) g.1
    (subst (Took p b.1) text taken.0, ltb-false _ _ g.0, wide.below (drop 1 b.0) tail))

marked_only : (w : Width) (limit : ℕ) → IsWide w limit → (least mark : ℕ) (p q : Place) (n : ℕ) → least ≤ n → n < limit →
    Took p q (mark ∷ to_le_bytes w n) → marked_at w least p ≡ Ok (n, q)
unfolding marked_at
marked_only w limit wide least mark p q n large small took =
    let whole = bytes_only (1 + byte_len w) p q (mark ∷ to_le_bytes w n) (omega (arith, wide.len n)) took in
    rw (whole, wide.again n small, le-ltb n least large) refl

-- what follows a first byte that is a mark
abbrev pub marked_last : Place → ℕ → Result (ℕ × Place) TxError
marked_last p first = cond (eqb first 254) (marked_at w32 65536 p) (marked_at w64 4294967296 p)

abbrev pub marked : Place → ℕ → Result (ℕ × Place) TxError
marked p first = cond (eqb first 253) (marked_at w16 253 p) (marked_last p first)

compact_found : (p q : Place) (n : ℕ) → AreBytes p.left → compact_at p ≡ Ok (n, q) → Took p q (compact n) × (n < 2 ^ 64)
unfolding compact_at
compact_found p q n bytes e =
    bind_case (number_at w8 p)
    (λ first. cond (ltb first.0 253) (Ok first) (marked p first.0)) (n, q) e
    (λ first step rest.
    let taken = number_found w8 256 wide8 p first.1 first.0 bytes step in
    let head : get_or p.left 0 0 ≡ first.0 = first_byte p first.1 first.0 taken.1 taken.0 in
    elim (chosen (ltb first.0 253) (Ok first) (marked p first.0) (Ok (n, q)) rest) [
      | inl small ↦
          let alone : Took p first.1 (compact first.0) =
          subst (Took p first.1) (byte_alone first.0 taken.1 ∙ sym (compact_small first.0 (ltb-true _ _ small.0))) taken.0 in
          subst (λ (y : ℕ × Place). Took p y.1 (compact y.0) × (y.0 < 2 ^ 64)) (ok_is first (n, q) small.1) (alone, omega (arith, taken.1))
      | inr more ↦ elim (chosen (eqb first.0 253) (marked_at w16 253 p) (marked_last p first.0) (Ok (n, q)) more.1) [
        | inl two ↦
            let found = marked_found w16 (2 ^ 16) wide16 253 253 p q n bytes (head ∙ eqb-true _ _ two.0) two.1 in
            (subst (Took p q) (sym (compact-3 n found.1 found.2)) found.0, omega (arith, found.2))
        | inr most ↦ elim (chosen (eqb first.0 254) (marked_at w32 65536 p) (marked_at w64 4294967296 p) (Ok (n, q)) most.1) [
          | inl four ↦
              let found = marked_found w32 (2 ^ 32) wide32 (2 ^ 16) 254 p q n bytes (head ∙ eqb-true _ _ four.0) four.1 in
              (subst (Took p q) (sym (compact-5 n found.1 found.2)) found.0, omega (arith, found.2))
          | inr eight ↦
              let last : first.0 ≡ 255 = omega (arith, taken.1, ltb-false _ _ more.0, eqb-false _ _ most.0, eqb-false _ _ eight.0) in
              let found = marked_found w64 (2 ^ 64) wide64 (2 ^ 32) 255 p q n bytes (head ∙ last) eight.1 in
              (subst (Took p q) (sym (compact-9 n found.1)) found.0, found.2)
        ]
      ]
    ])

-- a mark is read as a number
mark_read : (p q : Place) (mark : ℕ) (text : List ℕ) → mark < 256 → Took p q (mark ∷ text) → number_at w8 p ≡ Ok (mark, between p q (mark ∷ []) text)
mark_read p q mark text lt took =
    number_only w8 256 wide8 p (between p q (mark ∷ []) text) mark lt
    (subst (Took p (between p q (mark ∷ []) text)) (sym (byte_alone mark lt)) (Took-first p q (mark ∷ []) text took))

compact_only : (p q : Place) (n : ℕ) → n < 2 ^ 64 → Took p q (compact n) → compact_at p ≡ Ok (n, q)
unfolding compact_at
compact_only p q n fits took =
    elim (cases_lt n 253) [
      | inl small ↦
          let alone : Took p q (to_le_bytes w8 n) = subst (Took p q) (compact_small n small ∙ sym (byte_alone n (omega arith))) took in
          rw (number_only w8 256 wide8 p q n (omega arith) alone, lt-ltb n 253 small) refl
      | inr past_one ↦ elim (cases_lt n (2 ^ 16)) [
        | inl small ↦
            let text : Took p q (253 ∷ to_le_bytes w16 n) = subst (Took p q) (compact-3 n past_one small) took in
            rw (mark_read p q 253 (to_le_bytes w16 n) (omega arith) text) (marked_only w16 (2 ^ 16) wide16 253 253 p q n past_one small text)
        | inr past_two ↦ elim (cases_lt n (2 ^ 32)) [
          | inl small ↦
              let text : Took p q (254 ∷ to_le_bytes w32 n) = subst (Took p q) (compact-5 n past_two small) took in
              rw (mark_read p q 254 (to_le_bytes w32 n) (omega arith) text) (marked_only w32 (2 ^ 32) wide32 (2 ^ 16) 254 p q n past_two small text)
          | inr past_four ↦
              let text : Took p q (255 ∷ to_le_bytes w64 n) = subst (Took p q) (compact-9 n past_four) took in
              rw (mark_read p q 255 (to_le_bytes w64 n) (omega arith) text) (marked_only w64 (2 ^ 64) wide64 (2 ^ 32) 255 p q n past_four fits text)
        ]
      ]
    ]

pub compact_reader : IsReader compact_at compact (λ n. n < 2 ^ 64)
compact_reader = record { found = compact_found; only = compact_only }

-- ---- bytes behind their number

pub sized_reader : IsReader sized_at sized_bytes (λ bytes. length bytes < 2 ^ 64)
unfolding sized_at
sized_reader = record {
  found = λ p q x bytes e. bind_case (compact_at p) (λ len. bytes_at len.0 len.1) (x, q) e (λ len step rest.
      let first = compact_found p len.1 len.0 bytes step in
      let second = bytes_found len.0 len.1 q x rest in
      let both : Took p q (compact len.0 ++ x) = Took-then p len.1 q (compact len.0) x first.0 second.0 in
      (subst (λ n. Took p q (compact n ++ x)) (sym second.1) both, omega (arith, first.1, second.1)));
  only = λ p q x fits took.
      rw (compact_only p (between p q (compact (length x)) x) (length x) fits (Took-first p q (compact (length x)) x took))
      (bytes_only (length x) (between p q (compact (length x)) x) q x refl (Took-second p q (compact (length x)) x took));
}

-- ---- so many of a kind

many_found : {X : Type 0} (read : Place → Result (X × Place) TxError) (spell : X → List ℕ) (Fits : X → Type 0) → IsReader read spell Fits →
    (n : ℕ) (p q : Place) (xs : List X) → AreBytes p.left → many_at read n p ≡ Ok (xs, q) → Took p q (flat_map spell xs) × (length xs ≡ n) × AllByRecursion Fits xs
unfolding many_at
many_found {X} read spell Fits is zero p q xs bytes e =
    subst (λ (y : List X × Place). Took p y.1 (flat_map spell y.0) × (length y.0 ≡ 0) × AllByRecursion Fits y.0) (ok_is ([], p) (xs, q) e)
    (record { parts = refl; at = omega arith }, refl, tt)
many_found {X} read spell Fits is (suc n) p q xs bytes e =
    bind_case (read p) (λ first. many_at read n first.1 >>= λ others. Ok (first.0 ∷ others.0, others.1)) (xs, q) e (λ first step rest.
    bind_case (many_at read n first.1) (λ others. Ok (first.0 ∷ others.0, others.1)) (xs, q) rest (λ others more last.
    let one = is.found p first.1 first.0 bytes step in
    let two = many_found read spell Fits is n first.1 others.1 others.0 (AreBytes-rest p first.1 (spell first.0) bytes one.0) more in
    let both : Took p others.1 (spell first.0 ++ flat_map spell others.0) = Took-then p first.1 others.1 (spell first.0) (flat_map spell others.0) one.0 two.0 in
    subst (λ (y : List X × Place). Took p y.1 (flat_map spell y.0) × (length y.0 ≡ suc n) × AllByRecursion Fits y.0) (ok_is (first.0 ∷ others.0, others.1) (xs, q) last)
    (both, ap suc two.1, (one.1, two.2))))

many_only : {X : Type 0} (read : Place → Result (X × Place) TxError) (spell : X → List ℕ) (Fits : X → Type 0) → IsReader read spell Fits →
    (p q : Place) (xs : List X) → AllByRecursion Fits xs → Took p q (flat_map spell xs) → many_at read (length xs) p ≡ Ok (xs, q)
unfolding many_at
many_only read spell Fits is p q [] fits took =
    ap (λ (r : Place). Ok ([], r)) (same_place p q (omega (arith, took.at)) took.parts)
many_only read spell Fits is p q (x ∷ xs) fits took =
    let mid = between p q (spell x) (flat_map spell xs) in
    rw (is.only p mid x fits.0 (Took-first p q (spell x) (flat_map spell xs) took), many_only read spell Fits is mid q xs fits.1 (Took-second p q (spell x) (flat_map spell xs) took)) refl

pub many_reader : {X : Type 0} (read : Place → Result (X × Place) TxError) (spell : X → List ℕ) (Fits : X → Type 0) → IsReader read spell Fits →
    (n : ℕ) → IsReader (many_at read n) (flat_map spell) (λ xs. (length xs ≡ n) × AllByRecursion Fits xs)
many_reader read spell Fits is n = record {
  found = λ p q xs bytes e. let all = many_found read spell Fits is n p q xs bytes e in (all.0, (all.1, all.2));
  only = λ p q xs fits took. subst (λ k. many_at read k p ≡ Ok (xs, q)) fits.0 (many_only read spell Fits is p q xs fits.1 took);
}

pub counted_reader : {X : Type 0} (read : Place → Result (X × Place) TxError) (spell : X → List ℕ) (Fits : X → Type 0) → IsReader read spell Fits →
    IsReader (counted_at read) (counted_bytes spell) (λ xs. (length xs < 2 ^ 64) × AllByRecursion Fits xs)
unfolding counted_at
counted_reader read spell Fits is = record {
  found = λ p q xs bytes e. bind_case (compact_at p) (λ count. many_at read count.0 count.1) (xs, q) e (λ count step rest.
      let first = compact_found p count.1 count.0 bytes step in
      let second = many_found read spell Fits is count.0 count.1 q xs (AreBytes-rest p count.1 (compact count.0) bytes first.0) rest in
      let both : Took p q (compact count.0 ++ flat_map spell xs) = Took-then p count.1 q (compact count.0) (flat_map spell xs) first.0 second.0 in
      (subst (λ n. Took p q (compact n ++ flat_map spell xs)) (sym second.1) both, (omega (arith, first.1, second.1), second.2)));
  only = λ p q xs fits took.
      let mid = between p q (compact (length xs)) (flat_map spell xs) in
      rw (compact_only p mid (length xs) fits.0 (Took-first p q (compact (length xs)) (flat_map spell xs) took))
      (many_only read spell Fits is mid q xs fits.1 (Took-second p q (compact (length xs)) (flat_map spell xs) took));
}
