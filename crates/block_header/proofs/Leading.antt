-- Leading zero bits, counted byte by byte.
use Rattle.std.proofs.Common.{◌≡◌, ℕ, ◌+◌, ◌<◌, Bool, true, not, eqb, List, [], ◌∷◌, ◌++◌, reverse, refl, ap, sym, ◌∙◌, arith}
use Rattle.std.specs.Int.Count.{count_leading_zeros}
use Rattle.std.specs.List.{prefix_len, flat_map, push}
use Rattle.std.proofs.lemmas.Bool.{agree_below, agree_below_at, eqb-true, cond-false, ne_eqb}
use Rattle.std.proofs.lemmas.List.{reverse-append}
use Rattle.std.proofs.lemmas.List.Folds.{length-prefix_len, prefix_len-append}
use Rattle.std.proofs.lemmas.Nat.{leading_top}
use Rattle.block_header.specs.Hash.{bits_of, zero_bits}

-- how many zero bits a list of bytes begins with
abbrev pub zeros : List ℕ → ℕ
zeros bytes = prefix_len not (flat_map bits_of bytes)

pub zero_bits_is : (hash : List ℕ) → zero_bits hash ≡ zeros (reverse hash)
zero_bits_is hash = length-prefix_len not (flat_map bits_of (reverse hash))

pub zeros-zero : (bytes : List ℕ) → zeros (0 ∷ bytes) ≡ 8 + zeros bytes
zeros-zero bytes = omega arith

-- what the table below compares
abbrev counted : ℕ → Bool
counted b = eqb (prefix_len not (bits_of b)) (count_leading_zeros 8 b)

table : agree_below counted (λ _. true) 256 ≡ true
unfolding count_leading_zeros
table = refl

pub zeros-byte : (b : ℕ) (bytes : List ℕ) → 0 < b → b < 256 → zeros (b ∷ bytes) ≡ count_leading_zeros 8 b
zeros-byte b bytes positive small =
    let same : prefix_len not (bits_of b) ≡ count_leading_zeros 8 b = eqb-true _ _ (agree_below_at counted (λ _. true) 256 b table small) in
    let top = leading_top 8 b positive small in
    let short : prefix_len not (bits_of b) ≡ 8 → ⊥ = λ e. omega arith in
    prefix_len-append not (bits_of b) (flat_map bits_of bytes) ∙ cond-false _ _ _ (ne_eqb _ _ short) ∙ same

-- a byte at the end of a list comes first when the list is displayed
pub reverse-push : {A : Type 0} (xs : List A) (x : A) → reverse (xs ++ x ∷ []) ≡ x ∷ reverse xs
reverse-push xs x = reverse-append xs (x ∷ [])

-- the count is whole at the first byte that isn't zero
pub zero_bits_at : (bits : ℕ) (hash rest before : List ℕ) (b : ℕ) → bits + zeros (reverse rest) ≡ zeros (reverse hash) →
    rest ≡ push before b → (b ≡ 0 → ⊥) → b < 256 → bits + count_leading_zeros 8 b ≡ zero_bits hash
zero_bits_at bits hash rest before b so_far is_rest nonzero small =
    let first : zeros (reverse rest) ≡ zeros (b ∷ reverse before) = ap (λ x. zeros (reverse x)) is_rest ∙ ap zeros (reverse-push before b) in
    let positive : 0 < b = omega arith in
    let count : zeros (b ∷ reverse before) ≡ count_leading_zeros 8 b = zeros-byte b (reverse before) positive small in
    ap (λ n. bits + n) (sym (first ∙ count)) ∙ so_far ∙ sym (zero_bits_is hash)
