-- The numbers of prefixes and leads.
use Rattle.std.proofs.Common.{◌≡◌, ℕ, zero, suc, ◌-◌, ◌≤◌, ◌<◌, List, [], ◌∷◌, ◌++◌, length, take, drop, refl, ap, subst, sym, ◌∙◌, arith}
use Rattle.std.specs.Prelude.{replicate, slice_index}
use Rattle.std.specs.Int.{from_be_bytes, to_be_bytes, w32, w64}
use Rattle.std.specs.List.{AllByRecursion}
use Rattle.std.proofs.lemmas.Nat.{be_bytes_4, be_bytes_8}
use Rattle.prefix_space.specs.Paths.{IsPath, IsPrefix, IsShort, lead_key, lead_of, node_key, spelled}

-- what is computed of a path's bytes is its number
pub path-key : (len : ℕ) (bytes : List ℕ) → IsPath len bytes → len ≤ 3
    → from_be_bytes w32 (len ∷ slice_index bytes 0 ∷ slice_index bytes 1 ∷ slice_index bytes 2 ∷ []) ≡ node_key (take len bytes)
unfolding node_key
path-key len [] path few = let whole : 0 ≡ 4 = path.whole in absurd (omega (arith, whole))
path-key len (a ∷ []) path few = let whole : 1 ≡ 4 = path.whole in absurd (omega (arith, whole))
path-key len (a ∷ b ∷ []) path few = let whole : 2 ≡ 4 = path.whole in absurd (omega (arith, whole))
path-key len (a ∷ b ∷ c ∷ []) path few = let whole : 3 ≡ 4 = path.whole in absurd (omega (arith, whole))
path-key len (a ∷ b ∷ c ∷ d ∷ e ∷ l) path few = let whole : length (a ∷ b ∷ c ∷ d ∷ e ∷ l) ≡ 4 = path.whole in absurd (omega (arith, whole))
path-key zero (a ∷ b ∷ c ∷ d ∷ []) path few =
    let first : 0 ≡ a = ap (λ l. slice_index l 0) path.padded in
    let second : 0 ≡ b = ap (λ l. slice_index l 1) path.padded in
    let third : 0 ≡ c = ap (λ l. slice_index l 2) path.padded in
    omega (arith, first, second, third)
path-key (suc zero) (a ∷ b ∷ c ∷ d ∷ []) path few =
    let second : 0 ≡ b = ap (λ l. slice_index l 1) path.padded in
    let third : 0 ≡ c = ap (λ l. slice_index l 2) path.padded in
    omega (arith, second, third)
path-key (suc (suc zero)) (a ∷ b ∷ c ∷ d ∷ []) path few =
    let third : 0 ≡ c = ap (λ l. slice_index l 2) path.padded in
    omega (arith, third)
path-key (suc (suc (suc zero))) (a ∷ b ∷ c ∷ d ∷ []) path few = omega arith
path-key (suc (suc (suc (suc n)))) (a ∷ b ∷ c ∷ d ∷ []) path few = absurd (omega (arith, few))

pub whole-key : (lead : List ℕ) → 1 ≤ length lead → length lead ≤ 4
    → from_be_bytes w64 (0 ∷ 0 ∷ 0 ∷ length lead ∷ slice_index (lead ++ replicate (4 - length lead) 0) 0 ∷ slice_index (lead ++ replicate (4 - length lead) 0) 1
    ∷ slice_index (lead ++ replicate (4 - length lead) 0) 2 ∷ slice_index (lead ++ replicate (4 - length lead) 0) 3 ∷ []) ≡ lead_key lead
unfolding lead_key
whole-key [] some most = absurd (omega (arith, some))
whole-key (a ∷ []) some most = refl
whole-key (a ∷ b ∷ []) some most = refl
whole-key (a ∷ b ∷ c ∷ []) some most = refl
whole-key (a ∷ b ∷ c ∷ d ∷ []) some most = refl
whole-key (a ∷ b ∷ c ∷ d ∷ e ∷ l) some most = absurd (omega (arith, most))

-- each number of a list of bytes is below 256
below-at : (l : List ℕ) → AllByRecursion (λ byte. byte < 256) l → (i : ℕ) → slice_index l i < 256
below-at [] each i = omega arith
below-at (x ∷ l) each zero = each.0
below-at (x ∷ l) each (suc i) = below-at l each.1 i

-- a lead is spelled by its number
pub lead-of-key : (lead : List ℕ) → IsShort lead → lead_of (lead_key lead) ≡ lead
unfolding lead_of lead_key
lead-of-key [] short = absurd (let some : 1 ≤ 0 = short.some in omega (arith, some))
lead-of-key (a ∷ []) short =
    ap spelled (be_bytes_8 (0 ∷ 0 ∷ 0 ∷ 1 ∷ a ∷ 0 ∷ 0 ∷ 0 ∷ []) _ refl
    (below-at (0 ∷ 0 ∷ 0 ∷ 1 ∷ a ∷ 0 ∷ 0 ∷ 0 ∷ []) (omega arith, (omega arith, (omega arith, (omega arith, (short.each.0, (omega arith, (omega arith, (omega arith, tt))))))))) refl)
lead-of-key (a ∷ b ∷ []) short =
    ap spelled (be_bytes_8 (0 ∷ 0 ∷ 0 ∷ 2 ∷ a ∷ b ∷ 0 ∷ 0 ∷ []) _ refl
    (below-at (0 ∷ 0 ∷ 0 ∷ 2 ∷ a ∷ b ∷ 0 ∷ 0 ∷ []) (omega arith, (omega arith, (omega arith, (omega arith, (short.each.0, (short.each.1.0, (omega arith, (omega arith, tt))))))))) refl)
lead-of-key (a ∷ b ∷ c ∷ []) short =
    ap spelled (be_bytes_8 (0 ∷ 0 ∷ 0 ∷ 3 ∷ a ∷ b ∷ c ∷ 0 ∷ []) _ refl
    (below-at (0 ∷ 0 ∷ 0 ∷ 3 ∷ a ∷ b ∷ c ∷ 0 ∷ []) (omega arith, (omega arith, (omega arith, (omega arith, (short.each.0, (short.each.1.0, (short.each.1.1.0, (omega arith, tt))))))))) refl)
lead-of-key (a ∷ b ∷ c ∷ d ∷ []) short =
    ap spelled (be_bytes_8 (0 ∷ 0 ∷ 0 ∷ 4 ∷ a ∷ b ∷ c ∷ d ∷ []) _ refl
    (below-at (0 ∷ 0 ∷ 0 ∷ 4 ∷ a ∷ b ∷ c ∷ d ∷ []) (omega arith, (omega arith, (omega arith, (omega arith, (short.each.0, (short.each.1.0, (short.each.1.1.0, (short.each.1.1.1.0, tt))))))))) refl)
lead-of-key (a ∷ b ∷ c ∷ d ∷ e ∷ l) short = absurd (let most : length (a ∷ b ∷ c ∷ d ∷ e ∷ l) ≤ 4 = short.most in omega (arith, most))

-- and a prefix
pub prefix_bytes : List ℕ → List ℕ
prefix_bytes bytes = take (slice_index bytes 0) (drop 1 bytes)

pub prefix-of-key : (path : List ℕ) → IsPrefix path → prefix_bytes (to_be_bytes w32 (node_key path)) ≡ path
unfolding node_key prefix_bytes
prefix-of-key [] prefix = refl
prefix-of-key (a ∷ []) prefix =
    ap prefix_bytes (be_bytes_4 (1 ∷ a ∷ 0 ∷ 0 ∷ []) _ refl
    (below-at (1 ∷ a ∷ 0 ∷ 0 ∷ []) (omega arith, (prefix.each.0, (omega arith, (omega arith, tt))))) refl)
prefix-of-key (a ∷ b ∷ []) prefix =
    ap prefix_bytes (be_bytes_4 (2 ∷ a ∷ b ∷ 0 ∷ []) _ refl
    (below-at (2 ∷ a ∷ b ∷ 0 ∷ []) (omega arith, (prefix.each.0, (prefix.each.1.0, (omega arith, tt))))) refl)
prefix-of-key (a ∷ b ∷ c ∷ []) prefix =
    ap prefix_bytes (be_bytes_4 (3 ∷ a ∷ b ∷ c ∷ []) _ refl
    (below-at (3 ∷ a ∷ b ∷ c ∷ []) (omega arith, (prefix.each.0, (prefix.each.1.0, (prefix.each.1.1.0, tt))))) refl)
prefix-of-key (a ∷ b ∷ c ∷ d ∷ l) prefix = absurd (let most : length (a ∷ b ∷ c ∷ d ∷ l) ≤ 3 = prefix.most in omega (arith, most))

pub same-prefix : (p q : List ℕ) → IsPrefix p → IsPrefix q → node_key p ≡ node_key q → p ≡ q
same-prefix p q is-p is-q same =
    sym (prefix-of-key p is-p) ∙ ap (λ n. prefix_bytes (to_be_bytes w32 n)) same ∙ prefix-of-key q is-q

-- a lead's bytes are those that are padded
pub short-lead : (lead bytes : List ℕ) → 1 ≤ length lead → length lead ≤ 4 → bytes ≡ lead ++ replicate (4 - length lead) 0
    → (slice_index bytes 0 < 256) × (slice_index bytes 1 < 256) × (slice_index bytes 2 < 256) × (slice_index bytes 3 < 256) → IsShort lead
short-lead lead bytes some most is each = record { some = some; most = most; each = bytes-below lead bytes most is each } where
  bytes-below : (lead bytes : List ℕ) → length lead ≤ 4 → bytes ≡ lead ++ replicate (4 - length lead) 0
      → (slice_index bytes 0 < 256) × (slice_index bytes 1 < 256) × (slice_index bytes 2 < 256) × (slice_index bytes 3 < 256) → AllByRecursion (λ byte. byte < 256) lead
  bytes-below [] bytes most is each = tt
  bytes-below (a ∷ []) bytes most is each = (subst (λ l. slice_index l 0 < 256) is each.0, tt)
  bytes-below (a ∷ b ∷ []) bytes most is each = (subst (λ l. slice_index l 0 < 256) is each.0, (subst (λ l. slice_index l 1 < 256) is each.1, tt))
  bytes-below (a ∷ b ∷ c ∷ []) bytes most is each =
      (subst (λ l. slice_index l 0 < 256) is each.0, (subst (λ l. slice_index l 1 < 256) is each.1, (subst (λ l. slice_index l 2 < 256) is each.2, tt)))
  bytes-below (a ∷ b ∷ c ∷ d ∷ []) bytes most is each =
      (subst (λ l. slice_index l 0 < 256) is each.0, (subst (λ l. slice_index l 1 < 256) is each.1, (subst (λ l. slice_index l 2 < 256) is each.2, (subst (λ l. slice_index l 3 < 256) is each.3, tt))))
  bytes-below (a ∷ b ∷ c ∷ d ∷ e ∷ l) bytes most is each = absurd (omega (arith, most))
