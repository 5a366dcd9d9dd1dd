-- Bits of versions, within masks and outside of them.
use Rattle.std.proofs.Common.{◌≡◌, ◌≤◌, ◌+◌, ◌-◌, ◌==◌, ℕ, IsTrue, Some, bit_and, refl, sym, ap, ◌∙◌, arith, true}
use Rattle.std.proofs.lemmas.Bool.Decides.{nat_tests}
use Rattle.std.proofs.lemmas.Nat.{and_assoc, and_comm, and-not, and_or_apart, and_le_r}
use Rattle.std.proofs.lemmas.Grind.{and-not_self}
use Rattle.pool_history.specs.Judging.{outside}
use Rattle.v1_translate.specs.Submitting.{are_within, rolled_version}

none : (n : ℕ) → bit_and n 0 ≡ 0
none n = omega (arith, and_le_r n 0)

-- a mask that is cut has no bit outside
mask_apart : (rolled mask : ℕ) → rolled ≤ 0xffffffff → bit_and mask rolled ≡ mask → bit_and mask (0xffffffff - rolled) ≡ 0
mask_apart rolled mask few cut =
    let others = 0xffffffff - rolled in
    ap (λ m. bit_and m others) (sym cut) ∙ and_assoc others mask rolled ∙ ap (bit_and mask) (and_comm rolled others)
    ∙ sym (and_assoc rolled mask others) ∙ and-not_self mask 0xffffffff rolled rolled refl few refl

-- bits within a mask are its own
bits_kept : (mask bits : ℕ) → mask ≤ 0xffffffff → bits ≤ 0xffffffff → bit_and bits (0xffffffff - mask) ≡ 0 → bit_and mask bits ≡ bits
bits_kept mask bits fits small within =
    let whole : bit_and (0xffffffff - mask) bits + bit_and mask bits ≡ bits = and-not 32 mask bits (omega arith) (omega arith) in
    let gone : bit_and (0xffffffff - mask) bits ≡ 0 = and_comm (0xffffffff - mask) bits ∙ within in
    omega (arith, whole, gone)

bits_apart : (rolled mask bits : ℕ) → bit_and mask bits ≡ bits → bit_and mask (0xffffffff - rolled) ≡ 0 → bit_and bits (0xffffffff - rolled) ≡ 0
bits_apart rolled mask bits kept apart =
    let others = 0xffffffff - rolled in
    ap (λ b. bit_and b others) (sym kept ∙ and_comm mask bits) ∙ and_assoc others bits mask ∙ ap (bit_and bits) apart ∙ none bits

others_kept : (rolled mask : ℕ) → mask ≤ 0xffffffff → bit_and mask (0xffffffff - rolled) ≡ 0
    → bit_and (0xffffffff - mask) (0xffffffff - rolled) ≡ 0xffffffff - rolled
others_kept rolled mask fits apart =
    let whole : bit_and (0xffffffff - mask) (0xffffffff - rolled) + bit_and mask (0xffffffff - rolled) ≡ 0xffffffff - rolled =
    and-not 32 mask (0xffffffff - rolled) (omega arith) (omega arith) in
    omega (arith, whole, apart)

pub versions_kept : (rolled version mask bits : ℕ) → rolled ≤ 0xffffffff → mask ≤ 0xffffffff → bits ≤ 0xffffffff
    → bit_and mask rolled ≡ mask → IsTrue (are_within mask (Some bits))
    → outside rolled (rolled_version version mask (Some bits)) ≡ outside rolled version
versions_kept rolled version mask bits few fits small cut within =
    let others = 0xffffffff - rolled in
    let apart = mask_apart rolled mask few cut in
    let test : (bit_and bits (0xffffffff - mask) == 0) ≡ true = within in
    let zero_outside : bit_and bits (0xffffffff - mask) ≡ 0 = grind (arith, nat_tests) in
    let kept = bits_kept mask bits fits small zero_outside in
    and_or_apart others (bit_and version (0xffffffff - mask)) bits (bits_apart rolled mask bits kept apart)
    ∙ and_assoc others version (0xffffffff - mask) ∙ ap (bit_and version) (others_kept rolled mask fits apart)
