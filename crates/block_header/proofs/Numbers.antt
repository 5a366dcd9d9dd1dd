-- A list of bytes as one number: its leading zero bits, its order and its spelling.
use Rattle.std.proofs.Common.{◌≡◌, ℕ, zero, suc, ◌+◌, ◌*◌, ◌^◌, ◌<◌, ◌≤◌, List, [], ◌∷◌, ◌++◌, length, get_or, reverse, refl, ap, sym, subst, ◌∙◌, arith, IsTrue, ◌↔◌, Ordering}
use Rattle.std.specs.declared.cmp.Ordering.TheVariants.{Less, Equal, Greater}
use Rattle.std.specs.Ordering.{is_le, nat_cmp, ordering_then, MatchOrdering}
use Rattle.std.specs.Cmp.Lexicographic.{slice_cmp}
use Rattle.std.proofs.lemmas.Bool.{false≢true}
use Rattle.std.proofs.lemmas.Cmp.{ranked}
use Rattle.std.proofs.lemmas.List.{length-append, reverse-append}
use Rattle.std.proofs.lemmas.Nat.{leading_top, pow-add, mul-add-lt}
use Rattle.std.proofs.Math.Nat.{pow-suc, mul-le-mul_right}
use Rattle.block_header.proofs.Leading.{zeros, zeros-zero, zeros-byte}
use Rattle.block_header.specs.Target.{number}

-- each is a byte
abbrev pub AreBytes : List ℕ → Type 0
AreBytes bytes = (i : ℕ) → get_or bytes i 0 < 256

-- the number of bytes that stand highest first
abbrev pub displayed : List ℕ → ℕ
displayed [] = 0
displayed (b ∷ bs) = b * 256 ^ length bs + displayed bs

pub displayed-push : (bs : List ℕ) (b : ℕ) → displayed (bs ++ b ∷ []) ≡ 256 * displayed bs + b
displayed-push [] b = omega arith
displayed-push (x ∷ bs) b =
    let long : length (bs ++ b ∷ []) ≡ suc (length bs) = omega (arith, length-append bs (b ∷ [])) in
    let more : 256 ^ length (bs ++ b ∷ []) ≡ 256 ^ length bs * 256 = ap (λ n. 256 ^ n) long ∙ pow-suc 256 (length bs) in
    let rest : displayed (bs ++ b ∷ []) ≡ 256 * displayed bs + b = displayed-push bs b in
    rw (more, rest) (omega arith)

pub number_displayed : (bs : List ℕ) → number bs ≡ displayed (reverse bs)
number_displayed [] = refl
number_displayed (b ∷ bs) =
    let turned : displayed (reverse (b ∷ bs)) ≡ displayed (reverse bs ++ b ∷ []) = ap displayed (reverse-append (b ∷ []) bs) in
    let last : displayed (reverse bs ++ b ∷ []) ≡ 256 * displayed (reverse bs) + b = displayed-push (reverse bs) b in
    let rest : number bs ≡ displayed (reverse bs) = number_displayed bs in
    sym (turned ∙ last ∙ omega arith)

-- what the leading zeros of bits say of their number
pub record Leads (zeros bits number : ℕ) : Type 0 where
  pub digits : ℕ
  pub together : zeros + digits ≡ bits
  pub below : number < 2 ^ digits
  pub above : 0 < digits → 2 ^ digits ≤ 2 * number

pow_of_bytes : (n : ℕ) → 256 ^ n ≡ 2 ^ (8 * n)
pow_of_bytes zero = refl
pow_of_bytes (suc n) =
    let bits : 8 * suc n ≡ 8 * n + 8 = omega arith in
    pow-suc 256 n ∙ ap (λ x. x * 256) (pow_of_bytes n) ∙ sym (pow-add 2 (8 * n) 8) ∙ ap (λ x. 2 ^ x) (sym bits)

above_step : (b t P d : ℕ) → t ≤ 2 * b → t * P ≤ 2 * (b * P + d)
above_step b t P d h =
    let product : t * P ≤ 2 * b * P = mul-le-mul_right P h in
    omega arith

below_step : (b t P d : ℕ) → b < t → d < P → b * P + d < t * P
below_step b t P d h k = omega (arith, mul-add-lt b P d t h k)

pub displayed_below : (bs : List ℕ) → AreBytes bs → displayed bs < 256 ^ length bs
displayed_below [] bytes = omega arith
displayed_below (b ∷ bs) bytes =
    let rest = displayed_below bs (λ i. bytes (suc i)) in
    omega (arith, pow-suc 256 (length bs), below_step b 256 (256 ^ length bs) (displayed bs) (bytes 0) rest)

pub leads : (bs : List ℕ) → AreBytes bs → Leads (zeros bs) (8 * length bs) (displayed bs)
leads [] bytes = record { digits = 0; together = refl; below = omega arith; above = λ h. absurd (omega arith) }
leads (zero ∷ bs) bytes =
    let rest = leads bs (λ i. bytes (suc i)) in
    record {
      digits = rest.digits;
      together = omega (arith, zeros-zero bs, rest.together);
      below = omega (arith, rest.below);
      above = λ h. omega (arith, rest.above h);
    }
leads (suc b ∷ bs) bytes =
    let top = leading_top 8 (suc b) (omega arith) (bytes 0) in
    let tail : displayed bs < 2 ^ (8 * length bs) = subst (λ x. displayed bs < x) (pow_of_bytes (length bs)) (displayed_below bs (λ i. bytes (suc i))) in
    let twice : 2 ^ suc top.0 ≤ 2 * suc b = omega (arith, pow-suc 2 top.0, top.2) in
    let split : 2 ^ (suc top.0 + 8 * length bs) ≡ 2 ^ suc top.0 * 2 ^ (8 * length bs) = pow-add 2 (suc top.0) (8 * length bs) in
    let place : 256 ^ length bs ≡ 2 ^ (8 * length bs) = pow_of_bytes (length bs) in
    record {
      digits = suc top.0 + 8 * length bs;
      together = omega (arith, zeros-byte (suc b) bs (omega arith) (bytes 0), top.1);
      below = rw (split, place) (below_step (suc b) (2 ^ suc top.0) (2 ^ (8 * length bs)) (displayed bs) top.3 tail);
      above = λ h. rw (split, place) (above_step (suc b) (2 ^ suc top.0) (2 ^ (8 * length bs)) (displayed bs) twice);
    }

order_step : (o rest : Ordering) (x y P d e : ℕ) → MatchOrdering o (x < y) (x ≡ y) (y < x) → d < P → e < P →
    (IsTrue (is_le rest) ↔ (d ≤ e)) → IsTrue (is_le (ordering_then o rest)) ↔ (x * P + d ≤ y * P + e)
order_step Less rest x y P d e o h k both =
    let apart : x * P + P ≤ y * P = omega (arith, mul-le-mul_right {m = x + 1} {n = y} P (omega arith)) in
    (λ _. omega arith, λ _. refl)
order_step Equal rest x y P d e o h k both =
    let same : x * P ≡ y * P = ap (λ n. n * P) o in
    (λ t. let le : d ≤ e = both.0 t in omega arith, λ le. both.1 (omega arith))
order_step Greater rest x y P d e o h k both =
    let apart : y * P + P ≤ x * P = omega (arith, mul-le-mul_right {m = y + 1} {n = x} P (omega arith)) in
    (λ t. absurd (false≢true t), λ le. absurd (omega arith))

-- the order of displayed bytes is that of their numbers
pub order : (xs ys : List ℕ) → AreBytes xs → AreBytes ys → length xs ≡ length ys →
    IsTrue (is_le (slice_cmp nat_cmp xs ys)) ↔ (displayed xs ≤ displayed ys)
order [] [] f g same = (λ _. omega arith, λ _. refl)
order [] (y ∷ ys) f g same = absurd (omega arith)
order (x ∷ xs) [] f g same = absurd (omega arith)
order (x ∷ xs) (y ∷ ys) f g same =
    let long : length xs ≡ length ys = omega arith in
    let place : 256 ^ length xs ≡ 256 ^ length ys = ap (λ n. 256 ^ n) long in
    let low : displayed xs < 256 ^ length ys = subst (λ n. displayed xs < n) place (displayed_below xs (λ i. f (suc i))) in
    rw place
    (order_step (nat_cmp x y) (slice_cmp nat_cmp xs ys) x y (256 ^ length ys) (displayed xs) (displayed ys) (ranked x y (nat_cmp x y) refl)
    low (displayed_below ys (λ i. g (suc i))) (order xs ys (λ i. f (suc i)) (λ i. g (suc i)) long))
