-- Classes and targets as numbers, and their bytes.
use Rattle.std.proofs.Common.{◌≡◌, ℕ, zero, suc, ◌+◌, ◌-◌, ◌*◌, ◌/◌, ◌%◌, ◌^◌, ◌<◌, ◌≤◌, ◌⊎◌, inl, inr, Bool, true, false, List, [], ◌∷◌, ◌++◌, length, reverse, take, set, min, refl, ap, sym, subst, ◌∙◌, arith, leb, IsTrue, ◌↔◌}
use Rattle.std.proofs.lemmas.Bool.{both_ways, cases_lt, cases_order, leb-true, leb-false, cases_Bool}
use Rattle.std.proofs.lemmas.List.{append_assoc, append-nil, take_all, take_more_set, length-reverse, get_or-reverse, get_or_past}
use Rattle.std.proofs.lemmas.Nat.{pow-add, pow_pos, pow_below, one_shl}
use Rattle.std.proofs.Math.Nat.{pow-suc, pow-le-pow_right}
use Rattle.block_header.proofs.Leading.{zeros, zero_bits_is}
use Rattle.block_header.proofs.Numbers.{AreBytes, number_displayed, Leads, leads, order}
use Rattle.block_header.specs.Hash.{zero_bits, Meets}
use Rattle.block_header.specs.Target.{IsU256, IsAtMost, number, number_bytes, target_number, target, IsClassOf, first_class, class_of_number}

-- ---- numbers and bytes

pub length-number_bytes : (n m : ℕ) → length (number_bytes n m) ≡ n
unfolding number_bytes
length-number_bytes zero m = refl
length-number_bytes (suc n) m = ap suc (length-number_bytes n (m / 256))

pub AreBytes-number_bytes : (n m : ℕ) → AreBytes (number_bytes n m)
unfolding number_bytes
AreBytes-number_bytes zero m i = omega arith
AreBytes-number_bytes (suc n) m zero = omega arith
AreBytes-number_bytes (suc n) m (suc i) = AreBytes-number_bytes n (m / 256) i

pub number-number_bytes : (n m : ℕ) → m < 256 ^ n → number (number_bytes n m) ≡ m
unfolding number_bytes
number-number_bytes zero m small = omega arith
number-number_bytes (suc n) m small =
    let high : m / 256 < 256 ^ n = omega (arith, pow-suc 256 n) in
    omega (arith, number-number_bytes n (m / 256) high)

pub IsU256-number_bytes : (m : ℕ) → IsU256 (number_bytes 32 m)
IsU256-number_bytes m = record { whole = length-number_bytes 32 m; bytes = AreBytes-number_bytes 32 m }

-- k ones are the ones of the least byte and the rest of them
ones_split : (k here rest : ℕ) → k ≡ rest + here → here ≤ 8 → (rest ≡ 0) ⊎ (here ≡ 8) →
    ((2 ^ k - 1) % 256 ≡ 2 ^ here - 1) × ((2 ^ k - 1) / 256 ≡ 2 ^ rest - 1)
ones_split k here rest whole byte (inl none) =
    let few : 2 ^ k ≡ 2 ^ here = ap (λ n. 2 ^ n) (omega arith) in
    let one : 2 ^ rest ≡ 1 = ap (λ n. 2 ^ n) none in
    let small : 2 ^ here ≤ 256 = pow-le-pow_right {n = 2} (omega arith) byte in
    (omega (arith, pow_pos here), omega (arith, pow_pos here))
ones_split k here rest whole byte (inr full) =
    let eight : 2 ^ here ≡ 256 = ap (λ n. 2 ^ n) full in
    let many : 2 ^ k ≡ 2 ^ rest * 256 = ap (λ n. 2 ^ n) (omega arith) ∙ pow-add 2 rest 8 in
    (omega (arith, pow_pos rest), omega (arith, pow_pos rest))

-- the least byte of k ones, and the rest of them
pub ones_step : (n k : ℕ) → number_bytes (suc n) (2 ^ k - 1) ≡ (2 ^ min k 8 - 1) ∷ number_bytes n (2 ^ (k - min k 8) - 1)
unfolding number_bytes
ones_step n k =
    let split = elim (cases_lt k 8) as (λ _. (k - min k 8 ≡ 0) ⊎ (min k 8 ≡ 8)) [ inl few ↦ inl (omega arith) | inr many ↦ inr (omega arith) ] in
    let parts = ones_split k (min k 8) (k - min k 8) (omega arith) (omega arith) split in
    rw (parts.0, parts.1) refl

-- ---- classes

pub target_number_le : (y z : ℕ) → y ≤ z → target_number z ≤ target_number y
target_number_le y z h =
    let powers : 2 ^ (256 - z) ≤ 2 ^ (256 - y) = pow-le-pow_right {n = 2} (omega arith) (omega arith) in
    omega arith

pub target_number_below : (y z : ℕ) → y < z → z ≤ 256 → target_number z < target_number y
target_number_below y z h within =
    let powers : 2 ^ (256 - z) < 2 ^ (256 - y) = pow_below (256 - z) (256 - y) (omega arith) in
    omega (arith, pow_pos (256 - z))

pub first_class-IsClassOf : (m z n : ℕ) → ((y : ℕ) → y < z → m < target_number y) → target_number (z + n) ≤ m → IsClassOf m (first_class m z n)
unfolding first_class
first_class-IsClassOf m z zero before last = record { reached = subst (λ x. target_number x ≤ m) (omega arith) last; least = before }
first_class-IsClassOf m z (suc n) before last =
    elim (cases_Bool (leb (target_number z) m)) [
      | inl holds ↦ rw holds (record { reached = leb-true _ _ holds; least = before })
      | inr fails ↦ rw fails
          (first_class-IsClassOf m (suc z) n
          (λ y h. elim (cases_lt y z) [ inl lower ↦ before y lower | inr at ↦ let same : y ≡ z = omega arith in subst (λ x. m < target_number x) (sym same) (leb-false _ _ fails) ])
          (subst (λ x. target_number x ≤ m) (omega arith) last))
    ]

pub class_of_number-IsClassOf : (m : ℕ) → IsClassOf m (class_of_number m)
class_of_number-IsClassOf m = first_class-IsClassOf m 0 256 (λ y h. absurd (omega arith)) (omega arith)

pub one_class : (m a b : ℕ) → IsClassOf m a → IsClassOf m b → a ≡ b
one_class m a b one two =
    elim (cases_order a b) [
      | inl same ↦ same
      | inr (inl lower) ↦ absurd (omega (arith, two.least a lower, one.reached))
      | inr (inr higher) ↦ absurd (omega (arith, one.least b higher, two.reached))
    ]

pub class_of_number-target_number : (z : ℕ) → z ≤ 256 → class_of_number (target_number z) ≡ z
class_of_number-target_number z within = one_class (target_number z) _ z (class_of_number-IsClassOf (target_number z)) (record { reached = omega arith; least = λ y h. target_number_below y z h within })

pow_le_full : (z : ℕ) → 2 ^ (256 - z) ≤ 2 ^ 256
pow_le_full z =
    let fewer : 256 - z ≤ 256 = omega arith in
    pow-le-pow_right {n = 2} (omega arith) fewer

pub number-target : (z : ℕ) → number (target z) ≡ target_number z
number-target z =
    let powers : 2 ^ (256 - z) ≤ 2 ^ 256 = pow_le_full z in
    number-number_bytes 32 (target_number z) (omega (arith, pow_pos (256 - z)))

pub class_of_number-target : (z : ℕ) → z ≤ 256 → class_of_number (number (target z)) ≡ z
class_of_number-target z within = ap class_of_number (number-target z) ∙ class_of_number-target_number z within

-- ---- the tests on a hash

AreBytes-reverse : (bs : List ℕ) → AreBytes bs → AreBytes (reverse bs)
AreBytes-reverse bs bytes i =
    elim (cases_lt i (length bs)) [
      | inl inside ↦ subst (λ b. b < 256) (sym (get_or-reverse bs i 0 inside)) (bytes _)
      | inr past ↦ subst (λ b. b < 256) (sym (get_or_past (reverse bs) i 0 (omega (arith, length-reverse bs)))) (omega arith)
    ]

-- the leading zero bits of a hash, and its number
pub zero_bits-leads : (hash : List ℕ) → IsU256 hash → Leads (zero_bits hash) 256 (number hash)
zero_bits-leads hash is =
    let turned = leads (reverse hash) (AreBytes-reverse hash is.bytes) in
    let long : 8 * length (reverse hash) ≡ 256 = omega (arith, length-reverse hash, is.whole) in
    rw (zero_bits_is hash, number_displayed hash, ← long) turned

pub IsAtMost-number : (hash target : List ℕ) → IsU256 hash → IsU256 target → IsAtMost hash target ↔ (number hash ≤ number target)
IsAtMost-number hash target one two =
    let same : length (reverse hash) ≡ length (reverse target) = omega (arith, length-reverse hash, length-reverse target, one.whole, two.whole) in
    rw (number_displayed hash, number_displayed target)
    (order (reverse hash) (reverse target) (AreBytes-reverse hash one.bytes) (AreBytes-reverse target two.bytes) same)

pub Meets-number : (hash : List ℕ) (z : ℕ) → IsU256 hash → z ≤ 256 → Meets hash z ↔ (number hash ≤ target_number z)
Meets-number hash z is within =
    let found = zero_bits-leads hash is in (
      λ meets. let powers : 2 ^ found.digits ≤ 2 ^ (256 - z) = pow-le-pow_right {n = 2} (omega arith) (omega (arith, found.together)) in omega (arith, found.below),
      λ le. elim (cases_lt (zero_bits hash) z) [
        | inl short ↦
            let powers : 2 ^ suc (256 - z) ≤ 2 ^ found.digits = pow-le-pow_right {n = 2} (omega arith) (omega (arith, found.together)) in
            let high : 2 ^ found.digits ≤ 2 * number hash = found.above (omega (arith, found.together)) in
            absurd (omega (arith, pow-suc 2 (256 - z), pow_pos (256 - z)))
        | inr enough ↦ enough
      ],
    )

pub Meets-IsAtMost : (hash : List ℕ) (z : ℕ) → IsU256 hash → z ≤ 256 → Meets hash z ↔ IsAtMost hash (target z)
Meets-IsAtMost hash z is within =
    let numbers : Meets hash z ↔ (number hash ≤ target_number z) = Meets-number hash z is within in
    let order : IsAtMost hash (target z) ↔ (number hash ≤ number (target z)) = IsAtMost-number hash (target z) is (IsU256-number_bytes (target_number z)) in
    let same : number (target z) ≡ target_number z = number-target z in (
      λ meets. order.1 (subst (λ n. number hash ≤ n) (sym same) (numbers.0 meets)),
      λ most. numbers.1 (subst (λ n. number hash ≤ n) same (order.0 most)),
    )

-- ---- the class of a target

below_more : (m z : ℕ) → Leads z 256 m → (y : ℕ) → y < z → m < target_number y
below_more m z found y h =
    let powers : 2 ^ suc found.digits ≤ 2 ^ (256 - y) = pow-le-pow_right {n = 2} (omega arith) (omega (arith, found.together)) in
    omega (arith, found.below, pow-suc 2 found.digits)

-- the class is the count of leading zero bits where the number is the greatest with so many
pub IsClassOf-zeros : (m z : ℕ) → Leads z 256 m → target_number z ≤ m → IsClassOf m z
IsClassOf-zeros m z found reached = record { reached = reached; least = below_more m z found }

-- and else one more
pub IsClassOf-more : (m z : ℕ) → Leads z 256 m → m < target_number z → IsClassOf m (z + 1)
IsClassOf-more m z found short =
    let digits : 0 < found.digits = elim (cases_lt 0 found.digits) [ inl some ↦ some | inr none ↦ let all : z ≡ 256 = omega (arith, found.together) in let zero : target_number z ≡ 0 = ap target_number all in absurd (omega arith) ] in
    let half : 2 ^ (256 - (z + 1)) + 2 ^ (256 - (z + 1)) ≡ 2 ^ found.digits =
    let more : suc (256 - (z + 1)) ≡ found.digits = omega (arith, found.together) in
    sym (ap (λ n. 2 ^ n) (sym more) ∙ pow-suc 2 (256 - (z + 1)) ∙ omega arith) in
    record {
      reached = omega (arith, found.above digits);
      least = λ y h. elim (cases_lt y z) [ inl lower ↦ below_more m z found y lower | inr at ↦ let same : z ≡ y = omega arith in subst (λ x. m < target_number x) same short ];
    }

-- a class is reached where its target is at most the number
pub reached_by : (bytes lowest : List ℕ) (z : ℕ) → IsU256 bytes → lowest ≡ target z → IsAtMost lowest bytes ↔ (target_number z ≤ number bytes)
reached_by bytes lowest z is same =
    let compared : IsAtMost (target z) bytes ↔ (number (target z) ≤ number bytes) = IsAtMost-number (target z) bytes (IsU256-number_bytes (target_number z)) is in
    let named : number (target z) ≡ target_number z = number-target z in (
      λ most. subst (λ n. n ≤ number bytes) named (compared.0 (subst (λ x. IsAtMost x bytes) same most)),
      λ le. subst (λ x. IsAtMost x bytes) (sym same) (compared.1 (subst (λ n. n ≤ number bytes) (sym named) le)),
    )

pub class_where_reached : (bytes lowest : List ℕ) (z : ℕ) (test : Bool) → IsU256 bytes → z ≡ zero_bits bytes → lowest ≡ target z →
    (IsTrue test ↔ IsAtMost lowest bytes) → test ≡ true → IsClassOf (number bytes) z
class_where_reached bytes lowest z test is zeros same tested holds =
    let found : Leads z 256 (number bytes) = subst (λ n. Leads n 256 (number bytes)) (sym zeros) (zero_bits-leads bytes is) in
    IsClassOf-zeros (number bytes) z found ((reached_by bytes lowest z is same).0 (tested.0 holds))

pub class_where_not : (bytes lowest : List ℕ) (z : ℕ) (test : Bool) → IsU256 bytes → z ≡ zero_bits bytes → lowest ≡ target z →
    (IsTrue test ↔ IsAtMost lowest bytes) → test ≡ false → IsClassOf (number bytes) (z + 1)
class_where_not bytes lowest z test is zeros same tested fails =
    let found : Leads z 256 (number bytes) = subst (λ n. Leads n 256 (number bytes)) (sym zeros) (zero_bits-leads bytes is) in
    elim (cases_lt (number bytes) (target_number z)) [
      | inl short ↦ IsClassOf-more (number bytes) z found short
      | inr reached ↦ absurd (both_ways test fails (tested.1 ((reached_by bytes lowest z is same).1 reached)))
    ]

-- one step of the loop that writes the bytes of k ones
pub ones_written_more : (bytes whole : List ℕ) (i k here byte : ℕ) → i < length bytes → length bytes ≡ 32 → here ≡ min k 8 → byte ≡ 1 * 2 ^ here % 65536 - 1 →
    take i bytes ++ number_bytes (32 - i) (2 ^ k - 1) ≡ whole → take (i + 1) (set bytes i byte) ++ number_bytes (32 - (i + 1)) (2 ^ (k - here) - 1) ≡ whole
ones_written_more bytes whole i k here byte inside long least is_byte so_far =
    let few : here ≤ 8 = omega arith in
    let shifted : 1 * 2 ^ here % 65536 ≡ 2 ^ here = one_shl here 16 (omega arith) in
    let value : byte ≡ 2 ^ min k 8 - 1 = subst (λ h. byte ≡ 2 ^ h - 1) least (is_byte ∙ ap (λ n. n - 1) shifted) in
    let one_more : 32 - i ≡ suc (32 - (i + 1)) = omega arith in
    let step : number_bytes (32 - i) (2 ^ k - 1) ≡ byte ∷ number_bytes (32 - (i + 1)) (2 ^ (k - here) - 1) =
    rw (one_more, least, value) (ones_step (32 - (i + 1)) k) in
    rw (take_more_set bytes i byte inside, append_assoc) (ap (λ bs. take i bytes ++ bs) (sym step) ∙ so_far)

-- the loop ends with all bytes written
pub ones_written : (bytes whole : List ℕ) (i k : ℕ) → 32 ≤ i → i ≤ 32 → length bytes ≡ 32 → take i bytes ++ number_bytes (32 - i) (2 ^ k - 1) ≡ whole → bytes ≡ whole
unfolding number_bytes
ones_written bytes whole i k past within long so_far =
    let at : i ≡ 32 = omega arith in
    let all : take 32 bytes ≡ bytes = take_all 32 bytes (omega arith) in
    let full : take 32 bytes ++ [] ≡ whole = subst (λ n. take n bytes ++ number_bytes (32 - n) (2 ^ k - 1) ≡ whole) at so_far in
    sym (append-nil (take 32 bytes) ∙ all) ∙ full
