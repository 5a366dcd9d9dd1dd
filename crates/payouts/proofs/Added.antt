-- Numbers that grow at a place, and the weights of the credits in a window.
use Rattle.std.proofs.Common.{◌≡◌, ℕ, ◌+◌, ◌-◌, ◌<◌, ◌≤◌, suc, zero, Bool, true, false, cond, nat_le, List, [], ◌∷◌, ◌++◌, length, set, get_or, drop, replicate, refl, sym, ap, ◌∙◌, subst, arith}
use Rattle.std.specs.List.{AllByRecursion}
use Rattle.std.proofs.lemmas.Bool.{leb-true}
use Rattle.std.proofs.lemmas.List.{get_or_default, length-replicate}
use Rattle.std.proofs.lemmas.List.Sums.{sum_by-cons}
use Rattle.payout_laws.proofs.Sums.{all-append}
use Rattle.payouts.specs.declared.window.Kept.{Kept}
use Rattle.payouts.specs.Window.{IsKeptCredit, IsCreditWindow, added, weights_sum, weights_of, without_oldest}

pub length-added : (ns : List ℕ) (i x : ℕ) → length (added ns i x) ≡ length ns
length-added [] i x = refl
length-added (n ∷ ns) zero x = refl
length-added (n ∷ ns) (suc i) x = ap (λ m. suc m) (length-added ns i x)

pub added-none : (ns : List ℕ) (i : ℕ) → added ns i 0 ≡ ns
added-none [] i = refl
added-none (n ∷ ns) zero = ap (λ m. m ∷ ns) sum where
  sum : n + 0 ≡ n
  sum = omega arith
added-none (n ∷ ns) (suc i) = ap (λ ms. n ∷ ms) (added-none ns i)

-- a write that takes back a part of what was added
pub taken : (ns : List ℕ) (i x y d : ℕ) → i < length ns → y ≤ x
    → set (added ns i x) i (get_or (added ns i x) i d - y) ≡ added ns i (x - y)
taken [] i x y d within part = refl
taken (n ∷ ns) zero x y d within part = ap (λ m. m ∷ ns) rest where
  rest : n + x - y ≡ n + (x - y)
  rest = omega (arith, part)
taken (n ∷ ns) (suc i) x y d within part = ap (λ ms. n ∷ ms) (taken ns i x y d below part) where
  below : i < length ns
  below = omega (arith, within)

-- a write that adds
pub added-set : (ns : List ℕ) (i x d : ℕ) → i < length ns → set ns i (get_or ns i d + x) ≡ added ns i x
added-set [] i x d within = refl
added-set (n ∷ ns) zero x d within = refl
added-set (n ∷ ns) (suc i) x d within = ap (λ ms. n ∷ ms) (added-set ns i x d below) where
  below : i < length ns
  below = omega (arith, within)

pub total-added : (ns : List ℕ) (i x : ℕ) → i < length ns → weights_sum (added ns i x) ≡ weights_sum ns + x
total-added [] i x within = omega (arith, within)
total-added (n ∷ ns) zero x within = omega (arith, sum_by-cons (λ (m : ℕ). m) (n + x) ns, sum_by-cons (λ (m : ℕ). m) n ns)
total-added (n ∷ ns) (suc i) x within =
    omega (arith, sum_by-cons (λ (m : ℕ). m) n (added ns i x), sum_by-cons (λ (m : ℕ). m) n ns, total-added ns i x below)
  where
    below : i < length ns
    below = omega (arith, within)

-- the order in which numbers are added doesn't matter
pub added-turned : (ns : List ℕ) (i j x y : ℕ) → added (added ns i x) j y ≡ added (added ns j y) i x
added-turned [] i j x y = refl
added-turned (n ∷ ns) zero zero x y = ap (λ m. m ∷ ns) sum where
  sum : n + x + y ≡ n + y + x
  sum = omega arith
added-turned (n ∷ ns) zero (suc j) x y = refl
added-turned (n ∷ ns) (suc i) zero x y = refl
added-turned (n ∷ ns) (suc i) (suc j) x y = ap (λ ms. n ∷ ms) (added-turned ns i j x y)

pub length-weights_of : (accounts : ℕ) (all : List Kept) → length (weights_of accounts all) ≡ accounts
length-weights_of accounts [] = length-replicate accounts 0
length-weights_of accounts (kept ∷ newer) =
    length-added (weights_of accounts newer) kept.place kept.part ∙ length-weights_of accounts newer

-- one credit more, behind the others
pub weights_of-push : (accounts : ℕ) (all : List Kept) (kept : Kept)
    → weights_of accounts (all ++ kept ∷ []) ≡ added (weights_of accounts all) kept.place kept.part
weights_of-push accounts [] kept = refl
weights_of-push accounts (first ∷ newer) kept =
    ap (λ ns. added ns first.place first.part) (weights_of-push accounts newer kept)
    ∙ added-turned (weights_of accounts newer) kept.place first.place kept.part first.part

-- the oldest credit loses a part of its work, and its account as much of its weight
pub weights-cut : (oldest : Kept) (newer : List Kept) (weights : List ℕ) (cut d : ℕ) → cut ≤ oldest.part
    → IsCreditWindow (oldest ∷ newer) weights
    → set weights oldest.place (get_or weights oldest.place d - cut)
    ≡ added (weights_of (length weights) newer) oldest.place (oldest.part - cut)
weights-cut oldest newer weights cut d part is =
    subst (λ ns. set ns oldest.place (get_or ns oldest.place d - cut) ≡ added rest oldest.place (oldest.part - cut))
    (sym is.weighed) (taken rest oldest.place oldest.part cut d within part)
  where
    rest : List ℕ
    rest = weights_of (length weights) newer

    within : oldest.place < length (weights_of (length weights) newer)
    within = subst (λ n. oldest.place < n) (sym (length-weights_of (length weights) newer)) is.each.0.known

-- a cut of the oldest credit, which is the first of the list
pub record IsCut (all : List Kept) (weights : List ℕ) (oldest : Kept) (weight cut : ℕ) : Type 0 where
  pub enough : cut ≤ weight
  pub whole : cut ≡ oldest.part → IsCreditWindow (drop 1 all) (set weights oldest.place (weight - cut))
  pub part : cut < oldest.part
      → IsCreditWindow (set all 0 (record { place = oldest.place; part = oldest.part - cut })) (set weights oldest.place (weight - cut))
  pub taken : weights_sum (set weights oldest.place (weight - cut)) + cut ≡ weights_sum weights

-- numbers that are equal
weighs : (ns ms : List ℕ) (i d weight : ℕ) → ns ≡ ms → weight ≡ get_or ns i d → weight ≡ get_or ms i d
weighs ns ms i d weight e is = is ∙ ap (λ ks. get_or ks i d) e

get-added : (ns : List ℕ) (i x d : ℕ) → i < length ns → get_or (added ns i x) i d ≡ get_or ns i d + x
get-added [] i x d within = omega (arith, within)
get-added (n ∷ ns) zero x d within = refl
get-added (n ∷ ns) (suc i) x d within = get-added ns i x d below where
  below : i < length ns
  below = omega (arith, within)

cut_first : (oldest : Kept) (newer : List Kept) (weights : List ℕ) (weight cut : ℕ) → IsCreditWindow (oldest ∷ newer) weights
    → weight ≡ get_or weights oldest.place weight → cut ≤ oldest.part → IsCut (oldest ∷ newer) weights oldest weight cut
cut_first oldest newer weights weight cut is read small = record {
  enough = omega (arith, grown, small);
  whole = λ e. subst (λ ns. IsCreditWindow newer ns) (sym (written ∙ emptied e))
      (window newer (tail is.each.1) (ap (λ n. weights_of n newer) (sym long)));
  part = λ less. subst (λ ns. IsCreditWindow (record { place = oldest.place; part = oldest.part - cut } ∷ newer) ns) (sym written)
      (record {
        each = (record { known = subst (λ n. oldest.place < n) (sym same) is.each.0.known; some = omega (arith, less) }, subst (λ n. AllByRecursion (IsKeptCredit n) newer) (sym same) is.each.1);
        weighed = ap (λ n. added (weights_of n newer) oldest.place (oldest.part - cut)) (sym same);
      });
  taken = ap (λ ns. weights_sum ns + cut) written ∙ summed;
} where
  rest : List ℕ
  rest = weights_of (length weights) newer

  long : length (weights_of (length weights) newer) ≡ length weights
  long = length-weights_of (length weights) newer

  within : oldest.place < length (weights_of (length weights) newer)
  within = subst (λ n. oldest.place < n) (sym long) is.each.0.known

  grown : weight ≡ get_or (weights_of (length weights) newer) oldest.place weight + oldest.part
  grown = weighs weights (added (weights_of (length weights) newer) oldest.place oldest.part) oldest.place weight weight is.weighed read
      ∙ get-added (weights_of (length weights) newer) oldest.place oldest.part weight within

  written : set weights oldest.place (weight - cut) ≡ added (weights_of (length weights) newer) oldest.place (oldest.part - cut)
  written = ap (λ n. set weights oldest.place (n - cut)) read ∙ weights-cut oldest newer weights cut weight small is

  emptied : cut ≡ oldest.part → added (weights_of (length weights) newer) oldest.place (oldest.part - cut) ≡ weights_of (length weights) newer
  emptied e = ap (λ n. added (weights_of (length weights) newer) oldest.place n) none ∙ added-none (weights_of (length weights) newer) oldest.place where
    none : oldest.part - cut ≡ 0
    none = omega (arith, e)

  tail : AllByRecursion (IsKeptCredit (length weights)) newer → AllByRecursion (IsKeptCredit (length (weights_of (length weights) newer))) newer
  tail all = subst (λ n. AllByRecursion (IsKeptCredit n) newer) (sym long) all

  window : (kept : List Kept) → AllByRecursion (IsKeptCredit (length (weights_of (length weights) newer))) kept
      → weights_of (length weights) newer ≡ weights_of (length (weights_of (length weights) newer)) kept
      → IsCreditWindow kept (weights_of (length weights) newer)
  window kept all e = record { each = all; weighed = e }

  same : length (added (weights_of (length weights) newer) oldest.place (oldest.part - cut)) ≡ length weights
  same = length-added (weights_of (length weights) newer) oldest.place (oldest.part - cut) ∙ long

  summed : weights_sum (added (weights_of (length weights) newer) oldest.place (oldest.part - cut)) + cut ≡ weights_sum weights
  summed = omega (
    arith,
    small,
    total-added (weights_of (length weights) newer) oldest.place (oldest.part - cut) within,
    total-added (weights_of (length weights) newer) oldest.place oldest.part within,
    ap weights_sum is.weighed,
  )

known_oldest : (all : List Kept) (weights : List ℕ) (oldest : Kept) → 0 < length all → IsCreditWindow all weights → oldest ≡ get_or all 0 oldest → oldest.place < length weights
known_oldest [] weights oldest some is first = absurd (none some) where
  none : 0 < 0 → ⊥
  none l = omega (arith, l)
known_oldest (kept ∷ newer) weights oldest some is first = subst (λ k. k.place < length weights) (sym first) is.each.0.known

some_oldest : (all : List Kept) (weights : List ℕ) (oldest : Kept) → 0 < length all → IsCreditWindow all weights → oldest ≡ get_or all 0 oldest → 1 ≤ oldest.part
some_oldest [] weights oldest some is first = absurd (none some) where
  none : 0 < 0 → ⊥
  none l = omega (arith, l)
some_oldest (kept ∷ newer) weights oldest some is first = subst (λ k. 1 ≤ k.part) (sym first) is.each.0.some

cut_oldest : (all : List Kept) (weights : List ℕ) (oldest : Kept) (weight cut : ℕ) → 0 < length all → IsCreditWindow all weights
    → oldest ≡ get_or all 0 oldest → weight ≡ get_or weights oldest.place weight → cut ≤ oldest.part → IsCut all weights oldest weight cut
cut_oldest [] weights oldest weight cut some is first read small = absurd (none some) where
  none : 0 < 0 → ⊥
  none l = omega (arith, l)
cut_oldest (kept ∷ newer) weights oldest weight cut some is first read small =
    subst (λ k. IsCreditWindow (k ∷ newer) weights → IsCut (k ∷ newer) weights oldest weight cut) first
    (λ is. cut_first oldest newer weights weight cut is read small) is

-- the same of the weight that stands there
pub record IsCutThere (all : List Kept) (weights : List ℕ) (oldest : Kept) (cut : ℕ) : Type 0 where
  pub known : oldest.place < length weights
  pub some : 1 ≤ oldest.part
  pub cut_is : IsCut all weights oldest (get_or weights oldest.place 0) cut

pub cut_there : (all : List Kept) (weights : List ℕ) (oldest : Kept) (cut : ℕ) → 0 < length all → IsCreditWindow all weights
    → oldest ≡ get_or all 0 oldest → cut ≤ oldest.part → IsCutThere all weights oldest cut
cut_there all weights oldest cut some is first small = record {
  known = known_oldest all weights oldest some is first;
  some = some_oldest all weights oldest some is first;
  cut_is = cut_oldest all weights oldest (get_or weights oldest.place 0) cut some is first
      (get_or_default weights oldest.place 0 (get_or weights oldest.place 0) (known_oldest all weights oldest some is first)) small;
}

-- where nothing is cut, all stays; and without credits there is no weight
pub nothing_dropped : (accounts : ℕ) (all : List Kept) → AllByRecursion (IsKeptCredit accounts) all → without_oldest 0 all ≡ all
nothing_dropped accounts [] each = refl
nothing_dropped accounts (kept ∷ newer) each = by_test (nat_le kept.part 0) refl where
  by_test : (t : Bool) → nat_le kept.part 0 ≡ t
      → cond t (without_oldest (0 - kept.part) newer) (record { place = kept.place; part = kept.part - 0 } ∷ newer) ≡ kept ∷ newer
  by_test true e = absurd (below (leb-true kept.part 0 e)) where
    below : kept.part ≤ 0 → ⊥
    below l = omega (arith, l, each.0.some)
  by_test false e = ap (λ part. record { place = kept.place; part = part } ∷ newer) same where
    same : kept.part - 0 ≡ kept.part
    same = omega arith

pub total-none : (n : ℕ) → weights_sum (replicate n 0) ≡ 0
total-none zero = refl
total-none (suc n) = omega (arith, sum_by-cons (λ (m : ℕ). m) 0 (replicate n 0), total-none n)

pub total-empty : (all : List Kept) (weights : List ℕ) → IsCreditWindow all weights → length all ≡ 0 → weights_sum weights ≡ 0
total-empty [] weights is none = ap weights_sum is.weighed ∙ total-none (length weights)
total-empty (kept ∷ newer) weights is none = absurd (filled none) where
  filled : suc (length newer) ≡ 0 → ⊥
  filled e = omega (arith, e)

-- so the loop ends with nothing to cut
pub dropped : (all : List Kept) (weights : List ℕ) (excess : ℕ) → IsCreditWindow all weights → excess ≡ 0 → without_oldest excess all ≡ all
dropped all weights excess is none = ap (λ n. without_oldest n all) none ∙ nothing_dropped (length weights) all is.each

-- one credit more in the window
pub window-push : (all : List Kept) (weights : List ℕ) (kept : Kept) → IsCreditWindow all weights → IsKeptCredit (length weights) kept
    → IsCreditWindow (all ++ kept ∷ []) (added weights kept.place kept.part)
window-push all weights kept is known = record {
  each = subst (λ n. AllByRecursion (IsKeptCredit n) (all ++ kept ∷ [])) (sym (length-added weights kept.place kept.part))
      (all-append (IsKeptCredit (length weights)) all (kept ∷ []) is.each (known, tt));
  weighed = subst (λ n. added weights kept.place kept.part ≡ weights_of n (all ++ kept ∷ [])) (sym (length-added weights kept.place kept.part))
      (ap (λ ns. added ns kept.place kept.part) is.weighed ∙ sym (weights_of-push (length weights) all kept));
}

-- as a push and its weight leave it
pub record IsEntered (all : List Kept) (weights : List ℕ) (kept : Kept) (all' : List Kept) (weights' : List ℕ) : Type 0 where
  pub window : IsCreditWindow all' weights'
  pub summed : weights_sum weights' ≡ weights_sum weights + kept.part
  pub nothing : (excess : ℕ) → excess ≡ 0 → all' ≡ without_oldest excess (all ++ kept ∷ [])

pub entered : (all : List Kept) (weights : List ℕ) (kept : Kept) (all' : List Kept) (weights' : List ℕ) → IsCreditWindow all weights → IsKeptCredit (length weights) kept
    → all' ≡ all ++ kept ∷ [] → weights' ≡ added weights kept.place kept.part → IsEntered all weights kept all' weights'
entered all weights kept all' weights' is known pushed grown = record {
  window = window;
  summed = ap weights_sum grown ∙ total-added weights kept.place kept.part known.known;
  nothing = λ excess none. sym (dropped all' weights' excess window none) ∙ ap (without_oldest excess) pushed;
} where
  window : IsCreditWindow all' weights'
  window = subst (λ xs. IsCreditWindow xs weights') (sym pushed)
      (subst (λ ns. IsCreditWindow (all ++ kept ∷ []) ns) (sym grown) (window-push all weights kept is known))
