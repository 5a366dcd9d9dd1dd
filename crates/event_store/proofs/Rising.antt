-- Places that rise: those from one on, and the first of two lists.
use Rattle.std.proofs.Common.{◌⊎◌, inl, inr, ◌≡◌, ℕ, zero, suc, ◌+◌, ◌<◌, ◌≤◌, Bool, true, false, cond, ◌&&◌, None, Some, List, [], ◌∷◌, ◌++◌, get_or, length, map, drop, min, refl, ap, subst, sym, ◌∙◌, arith}
use Rattle.std.proofs.Math.Dec.{eqb}
use Rattle.std.proofs.lemmas.Bool.{eq-eqb, eqb-true, eqb-false, le-leb, leb-false, leb-true, lt-leb, lt-ltb, ltb-false, ltb-true}
use Rattle.std.specs.List.Sorted.{IsPartitionedBy}
use Rattle.std.specs.List.{AllByRecursion, AllWithin}
use Rattle.std.specs.Prelude.{filter, nat_le, nat_lt, slice_get}
use Rattle.history_laws.proofs.Entrances.{none-some, some-same}
use Rattle.history_laws.proofs.Living.{In}
use Rattle.event_store.specs.declared.marks.OpeningMark.{OpeningMark}
use Rattle.event_store.specs.Places.{AreRisingFrom, behind, earlier, is_own_since, openings_since, since}

-- a lower least one
pub rising-lower : (least lower : ℕ) (xs : List ℕ) → lower ≤ least → AreRisingFrom least xs → AreRisingFrom lower xs
rising-lower least lower [] low r = tt
rising-lower least lower (x ∷ xs) low r = (let first : least ≤ x = r.0 in omega (arith, first, low), r.1)

-- one more
pub rising-end : (least n : ℕ) (xs : List ℕ) → least ≤ n → AllByRecursion (λ at. at < n) xs → AreRisingFrom least xs → AreRisingFrom least (xs ++ n ∷ [])
rising-end least n [] low all r = (low, tt)
rising-end least n (x ∷ xs) low all r =
    (r.0, rising-end (suc x) n xs (let first : x < n = all.0 in omega (arith, first)) all.1 r.1)

-- those of some marks
pub rising-marks : (least : ℕ) (p : OpeningMark → Bool) (marks : List OpeningMark) → AreRisingFrom least (map (λ mark. mark.at) marks)
    → AreRisingFrom least (map (λ mark. mark.at) (filter p marks))
rising-marks least p [] r = tt
rising-marks least p (mark ∷ marks) r = by (rising-marks (suc mark.at) p marks r.1) (p mark) where
  by : AreRisingFrom (suc mark.at) (map (λ mark. mark.at) (filter p marks))
      → (b : Bool) → AreRisingFrom least (map (λ mark. mark.at) (cond b (mark ∷ filter p marks) (filter p marks)))
  by rest true = (r.0, rest)
  by rest false = rising-lower (suc mark.at) least (map (λ mark. mark.at) (filter p marks)) (let first : least ≤ mark.at = r.0 in omega (arith, first)) rest

-- those from a place on, and none of them is left out
all-since : (from least : ℕ) (xs : List ℕ) → from ≤ least → AreRisingFrom least xs → since from xs ≡ xs
all-since from least [] low r = refl
all-since from least (x ∷ xs) low r =
    let first : least ≤ x = r.0 in
    ap (λ b. cond b (x ∷ since from xs) (since from xs)) (le-leb from x (omega (arith, first, low)))
    ∙ ap (λ l. x ∷ l) (all-since from (suc x) xs (omega (arith, first, low)) r.1)

pub rising-since : (least from : ℕ) (xs : List ℕ) → AreRisingFrom least xs → AreRisingFrom from (since from xs)
rising-since least from [] r = tt
rising-since least from (x ∷ xs) r = by (rising-since (suc x) from xs r.1) (nat_le from x) refl where
  by : AreRisingFrom from (since from xs) → (b : Bool) → nat_le from x ≡ b → AreRisingFrom from (cond b (x ∷ since from xs) (since from xs))
  by rest true high =
      let low : from ≤ x = leb-true from x high in
      (low, subst (AreRisingFrom (suc x)) (sym (all-since from (suc x) xs (omega (arith, low)) r.1)) r.1)
  by rest false low = rest

pub own-rising : (session from least : ℕ) (marks : List OpeningMark) → AreRisingFrom least (map (λ mark. mark.at) marks)
    → AreRisingFrom from (openings_since marks session from)
own-rising session from least [] r = tt
own-rising session from least (mark ∷ marks) r = by (own-rising session from (suc mark.at) marks r.1) (eqb mark.session session) (nat_le from mark.at) refl where
  by : AreRisingFrom from (openings_since marks session from) → (a b : Bool) → nat_le from mark.at ≡ b
      → AreRisingFrom from (map (λ mark. mark.at) (cond (a && b) (mark ∷ filter (is_own_since session from) marks) (filter (is_own_since session from) marks)))
  by rest true true high = (leb-true from mark.at high, rising-marks (suc mark.at) (is_own_since session from) marks r.1)
  by rest true false low = rest
  by rest false b other = rest

pub in-since : (q from : ℕ) (xs : List ℕ) → from ≤ q → In q xs → In q (since from xs)
in-since q from [] high i = i
in-since q from (x ∷ xs) high i = by (in-since q from xs high) (nat_le from x) refl i where
  by : (In q xs → In q (since from xs)) → (b : Bool) → nat_le from x ≡ b → In q (x ∷ xs) → In q (cond b (x ∷ since from xs) (since from xs))
  by rest true is (inl e) = inl e
  by rest true is (inr k) = inr (rest k)
  by rest false is (inl e) = let low : x < from = leb-false from x is in absurd (omega (arith, low, high, e))
  by rest false is (inr k) = rest k

pub in-above : (q least : ℕ) (xs : List ℕ) → AreRisingFrom least xs → In q xs → least ≤ q
in-above q least [] r i = elim i [ ]
in-above q least (x ∷ xs) r (inl e) = let first : least ≤ x = r.0 in omega (arith, first, e)
in-above q least (x ∷ xs) r (inr k) =
    let first : least ≤ x = r.0 in
    let more : suc x ≤ q = in-above q (suc x) xs r.1 k in
    omega (arith, first, more)

-- they are found by halves
all-above : (least : ℕ) (xs : List ℕ) (k d : ℕ) → AreRisingFrom least xs → k < length xs → least ≤ get_or xs k d
all-above least [] k d r within = absurd (omega (arith, within))
all-above least (x ∷ xs) zero d r within = r.0
all-above least (x ∷ xs) (suc k) d r within =
    let first : least ≤ x = r.0 in
    let more : suc x ≤ get_or xs k d = all-above (suc x) xs k d r.1 (omega (arith, within)) in
    omega (arith, first, more)

rising-at : (least : ℕ) (xs : List ℕ) (i j d : ℕ) → AreRisingFrom least xs → i ≤ j → j < length xs → get_or xs i d ≤ get_or xs j d
rising-at least [] i j d r order within = absurd (omega (arith, within))
rising-at least (x ∷ xs) zero zero d r order within = omega arith
rising-at least (x ∷ xs) zero (suc j) d r order within =
    let above : suc x ≤ get_or xs j d = all-above (suc x) xs j d r.1 (omega (arith, within)) in
    omega (arith, above)
rising-at least (x ∷ xs) (suc i) zero d r order within = absurd (omega (arith, order))
rising-at least (x ∷ xs) (suc i) (suc j) d r order within = rising-at (suc x) xs i j d r.1 (omega (arith, order)) (omega (arith, within))

pub rising-parted : (from least : ℕ) (xs : List ℕ) → AreRisingFrom least xs → IsPartitionedBy (λ at. nat_lt at from) xs
rising-parted from least xs r i j d order within lower =
    let few : get_or xs i d ≤ get_or xs j d = rising-at least xs i j d r order within in
    let low : get_or xs j d < from = ltb-true (get_or xs j d) from lower in
    lt-ltb (get_or xs i d) from (omega (arith, few, low))

pub parted-since : (from at : ℕ) (xs : List ℕ) → AllWithin (λ x. nat_lt x from ≡ true) xs 0 at → AllWithin (λ x. nat_lt x from ≡ false) xs at (length xs)
    → at ≤ length xs → drop at xs ≡ since from xs
parted-since from zero [] low high within = refl
parted-since from (suc at) [] low high within = refl
parted-since from zero (x ∷ xs) low high within =
    let first : from ≤ x = ltb-false x from (high 0 x (omega arith) (omega arith)) in
    ap (λ l. x ∷ l) (parted-since from zero xs (λ k d above below. absurd (omega (arith, below)))
    (λ k d above below. high (suc k) d (omega arith) (omega (arith, below))) (omega arith))
    ∙ ap (λ b. cond b (x ∷ since from xs) (since from xs)) (sym (le-leb from x first))
parted-since from (suc at) (x ∷ xs) low high within =
    let first : x < from = ltb-true x from (low 0 x (omega arith) (omega arith)) in
    parted-since from at xs (λ k d above below. low (suc k) d (omega arith) (omega (arith, below)))
    (λ k d above below. high (suc k) d (omega (arith, above)) (omega (arith, below))) (omega (arith, within))
    ∙ ap (λ b. cond b (x ∷ since from xs) (since from xs)) (sym (lt-leb from x first))

-- the first of two lists
pub record IsFirst (least at : ℕ) (xs ys : List ℕ) : Type 0 where
  pub after : least ≤ at
  pub first : AreRisingFrom at xs
  pub second : AreRisingFrom at ys
  pub there : In at xs ⊎ In at ys

pub first-is : (least at : ℕ) (xs ys : List ℕ) → AreRisingFrom least xs → AreRisingFrom least ys
    → Some at ≡ earlier (slice_get xs 0) (slice_get ys 0) → IsFirst least at xs ys
first-is least at [] [] r s is = absurd (none-some (sym is))
first-is least at (x ∷ xs) [] r s is =
    let e : at ≡ x = some-same is in
    record { after = subst (λ n. least ≤ n) (sym e) r.0; first = (omega (arith, e), r.1); second = tt; there = inl (inl e) }
first-is least at [] (y ∷ ys) r s is =
    let e : at ≡ y = some-same is in
    record { after = subst (λ n. least ≤ n) (sym e) s.0; first = tt; second = (omega (arith, e), s.1); there = inr (inl e) }
first-is least at (x ∷ xs) (y ∷ ys) r s is = by (nat_le x y) refl where
  e : at ≡ min x y
  e = some-same is

  by : (b : Bool) → nat_le x y ≡ b → IsFirst least at (x ∷ xs) (y ∷ ys)
  by true low =
      let below : x ≤ y = leb-true x y low in
      let same : at ≡ x = omega (arith, e, below) in
      let some : least ≤ x = r.0 in
      record { after = omega (arith, same, some); first = (omega (arith, same), r.1); second = (omega (arith, same, below), s.1); there = inl (inl same) }
  by false high =
      let below : y < x = leb-false x y high in
      let same : at ≡ y = omega (arith, e, below) in
      let some : least ≤ y = s.0 in
      record { after = omega (arith, same, some); first = (omega (arith, same, below), r.1); second = (omega (arith, same), s.1); there = inr (inl same) }

-- behind it
pub behind-rising : (at : ℕ) (xs : List ℕ) → AreRisingFrom at xs → AreRisingFrom (suc at) (behind at xs)
behind-rising at [] r = tt
behind-rising at (x ∷ xs) r = by (eqb x at) refl where
  by : (b : Bool) → eqb x at ≡ b → AreRisingFrom (suc at) (cond b xs (x ∷ xs))
  by true is = let same : x ≡ at = eqb-true x at is in subst (λ n. AreRisingFrom (suc n) xs) same r.1
  by false is =
      let other : x ≡ at → ⊥ = eqb-false x at is in
      let low : at ≤ x = r.0 in
      (omega (arith, other, low), r.1)

pub in-behind : (q at : ℕ) (xs : List ℕ) → suc at ≤ q → In q xs → In q (behind at xs)
in-behind q at [] high i = i
in-behind q at (x ∷ xs) high i = by (eqb x at) refl i where
  by : (b : Bool) → eqb x at ≡ b → In q (x ∷ xs) → In q (cond b xs (x ∷ xs))
  by true is (inl e) = let same : x ≡ at = eqb-true x at is in absurd (omega (arith, e, same, high))
  by true is (inr k) = k
  by false is i = i

pub behind-in : (q at : ℕ) (xs : List ℕ) → In q (behind at xs) → In q xs
behind-in q at [] i = i
behind-in q at (x ∷ xs) i = by (eqb x at) i where
  by : (b : Bool) → In q (cond b xs (x ∷ xs)) → In q (x ∷ xs)
  by true k = inr k
  by false k = k

pub behind-few : (at : ℕ) (xs : List ℕ) → length (behind at xs) ≤ length xs
behind-few at [] = omega arith
behind-few at (x ∷ xs) = by (eqb x at) where
  by : (b : Bool) → length (cond b xs (x ∷ xs)) ≤ length (x ∷ xs)
  by true = omega arith
  by false = omega arith

behind-fewer : (at : ℕ) (xs : List ℕ) → AreRisingFrom at xs → In at xs → length (behind at xs) < length xs
behind-fewer at [] r i = elim i [ ]
behind-fewer at (x ∷ xs) r (inl e) = ap-less (eqb x at) (eq-eqb x at (sym e)) where
  ap-less : (b : Bool) → b ≡ true → length (cond b xs (x ∷ xs)) < length (x ∷ xs)
  ap-less true is = omega arith
  ap-less false is = absurd cc
behind-fewer at (x ∷ xs) r (inr k) =
    let low : at ≤ x = r.0 in
    let more : suc x ≤ at = in-above at (suc x) xs r.1 k in
    absurd (omega (arith, low, more))

pub fewer-left : (least at : ℕ) (xs ys : List ℕ) → IsFirst least at xs ys → length (behind at xs) + length (behind at ys) < length xs + length ys
fewer-left least at xs ys f = by f.there where
  first : length (behind at xs) ≤ length xs
  first = behind-few at xs

  second : length (behind at ys) ≤ length ys
  second = behind-few at ys

  by : In at xs ⊎ In at ys → length (behind at xs) + length (behind at ys) < length xs + length ys
  by (inl i) = let less : length (behind at xs) < length xs = behind-fewer at xs f.first i in omega (arith, less, second)
  by (inr i) = let less : length (behind at ys) < length ys = behind-fewer at ys f.second i in omega (arith, less, first)

-- where there is none, both are empty
pub none-first : (xs ys : List ℕ) → None ≡ earlier (slice_get xs 0) (slice_get ys 0) → (xs ≡ []) × (ys ≡ [])
none-first [] [] is = (refl, refl)
none-first (x ∷ xs) [] is = absurd (none-some is)
none-first [] (y ∷ ys) is = absurd (none-some is)
none-first (x ∷ xs) (y ∷ ys) is = absurd (none-some is)
