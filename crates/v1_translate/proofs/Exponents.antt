-- The exponent of the greatest power of two that is at most a number.
use Rattle.std.proofs.Common.{◌≡◌, ◌≤◌, ◌<◌, ◌*◌, ◌^◌, ℕ, zero, suc, inl, inr, arith, pow_mono, pow-suc, subst}
use Rattle.std.specs.Prelude.{nat_le}
use Rattle.std.proofs.lemmas.Bool.{cases_Bool}
use Rattle.std.proofs.lemmas.Bool.Decides.{nat_tests}
use Rattle.v1_translate.specs.Difficulty.{exponent_up_to}

-- a power of two isn't above the greatest one
not_above : (e k number : ℕ) → number < 2 * 2 ^ e → 2 ^ k ≤ number → k ≤ e
not_above e k number under reached =
    elim (cases_Bool (nat_le k e)) [
      | inl upto ↦ grind (arith, nat_tests)
      | inr above ↦
          let past : suc e ≤ k = grind (arith, nat_tests) in
          let more : 2 ^ suc e ≤ 2 ^ k = pow_mono past in
          absurd (omega (arith, more, pow-suc 2 e))
    ]

pub exponent_is : (most e number : ℕ) → 2 ^ e ≤ number → number < 2 * 2 ^ e → e ≤ most → exponent_up_to most number ≡ e
unfolding exponent_up_to
exponent_is zero e number reached under few = omega arith
exponent_is (suc most) e number reached under few =
    elim (cases_Bool (nat_le (2 ^ suc most) number)) [
      | inl there ↦
          let at_most : 2 ^ suc most ≤ number = grind (arith, nat_tests) in
          let upto : suc most ≤ e = not_above e (suc most) number under at_most in
          rw there (omega arith)
      | inr above ↦
          let beyond : number < 2 ^ suc most = grind (arith, nat_tests) in
          let fewer : e ≤ most = elim (cases_Bool (nat_le e most)) [
            | inl upto ↦ grind (arith, nat_tests)
            | inr past ↦
                let same : e ≡ suc most = grind (arith, nat_tests) in
                let again : 2 ^ suc most ≤ number = subst (λ n. 2 ^ n ≤ number) same reached in
                absurd (omega arith)
          ] in
          rw above (exponent_is most e number reached under fewer)
    ]
