-- The first of byte strings that lie one after the other.
use Rattle.std.proofs.Common.{◌≡◌, ℕ, zero, suc, ◌+◌, ◌-◌, ◌≤◌, Some, List, ◌∷◌, length, take, drop, refl, arith, sym, ap, subst, ◌∙◌}
use Rattle.std.specs.List.{slice_get}
use Rattle.std.proofs.lemmas.List.{length-drop, length-take-le, take_rest}
use Rattle.sv2_types.specs.Reading.{parts_at, parts_size, said}
use Rattle.sv2_types.proofs.Items.{IsBehindFirst, behind_first}

-- what is known of the first, and of the bytes behind it as they are taken
pub record IsFirst (count : ℕ) (spelled first : List ℕ) : Type 0 where
  pub fits : 3 + length first ≤ length spelled
  pub whole : parts_size (count - 1)
      (take (length spelled - (3 + length first)) (drop (3 + length first) spelled))
      ≡ length (take (length spelled - (3 + length first)) (drop (3 + length first) spelled))
  pub parts : parts_at count spelled
      ≡ first
      ∷ parts_at (count - 1)
      (take (length spelled - (3 + length first)) (drop (3 + length first) spelled))

of_behind : (count : ℕ) (spelled first : List ℕ) → first ≡ take (said 3 spelled) (drop 3 spelled)
    → IsBehindFirst count spelled → IsFirst count spelled first
of_behind count spelled first first_is behind =
    let long : length first ≡ said 3 spelled =
    ap length first_is
    ∙ length-take-le (said 3 spelled) (drop 3 spelled)
    (omega (arith, behind.fits, length-drop 3 spelled)) in
    let rest : take (length spelled - (3 + length first)) (drop (3 + length first) spelled)
    ≡ drop (3 + said 3 spelled) spelled =
    take_rest spelled (3 + length first) ∙ ap (λ n. drop (3 + n) spelled) long in
    record {
      fits = omega (arith, behind.fits, long);
      whole = let P : List ℕ → Type 0 = λ bytes. parts_size (count - 1) bytes ≡ length bytes in
          subst P (sym rest) behind.whole;
      parts = behind.parts
          ∙ ap (λ head. head ∷ parts_at (count - 1) (drop (3 + said 3 spelled) spelled)) (sym first_is)
          ∙ ap (λ bytes. first ∷ parts_at (count - 1) bytes) (sym rest);
    }

pub first_part : (count : ℕ) (spelled first : List ℕ) → parts_size count spelled ≡ length spelled
    → Some first ≡ slice_get (parts_at count spelled) 0 → IsFirst count spelled first
first_part zero spelled first whole found = cc
first_part (suc count) spelled first whole found =
    of_behind (suc count) spelled first (first_of (suc count) spelled first refl found)
    (behind_first (suc count) spelled (omega arith) whole)
  where
    first_of : (n : ℕ) (spelled first : List ℕ) → n ≡ suc count
        → Some first ≡ slice_get (parts_at (suc count) spelled) 0
        → first ≡ take (said 3 spelled) (drop 3 spelled)
    first_of n spelled first e found = cc
