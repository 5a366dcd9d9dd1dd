-- What holds of the weights and of the list of their places, over each change of a weight.
use Rattle.std.proofs.Common.{◌≡◌, ◌≢◌, ℕ, ◌+◌, ◌<◌, ◌≤◌, suc, zero, Bool, true, false, cond, nat_eq, nat_lt, drop, get_or, set, replicate, List, [], ◌∷◌, ◌++◌, length, refl, sym, ap, ap₂, ◌∙◌, subst, arith}
use Rattle.std.proofs.lemmas.Bool.{eq-eqb, eqb-true, lt-ltb, ltb-false, ne_eqb}
use Rattle.std.proofs.lemmas.List.{drop_all, get_or_default, get_or-set_other, get_or-set_same, length-append, length-set}
use Rattle.std.proofs.Math.Seq.{drop-cons}
use Rattle.payouts.specs.Listings.{HasSlots, HasWeightsAt, IsWeighed, ListsOnce, times_listed}
use Rattle.payouts.specs.Window.{added}
use Rattle.payouts.proofs.Added.{added-set}
use Rattle.payouts.proofs.Times.{times-other, times-push, times-same}

-- what is read at a place
pub read : (numbers : List ℕ) (place before : ℕ) → place < length numbers → before ≡ get_or numbers place before → before ≡ get_or numbers place 0
read numbers place before within is = is ∙ get_or_default numbers place before 0 within

pub grown : (numbers : List ℕ) (place before work : ℕ) → place < length numbers → before ≡ get_or numbers place before
    → set numbers place (before + work) ≡ added numbers place work
grown numbers place before work within is =
    ap (λ n. set numbers place (n + work)) (read numbers place before within is) ∙ added-set numbers place work 0 within

-- a place is listed where it has a weight
pub absent : (numbers places : List ℕ) (place : ℕ) → ListsOnce numbers places → get_or numbers place 0 ≡ 0 → times_listed place places ≡ 0
absent numbers places place is none = is.each place ∙ ap {B = ℕ} (λ n. cond (nat_lt 0 n) 1 0) none

pub present : (numbers places : List ℕ) (place : ℕ) → ListsOnce numbers places → 0 < get_or numbers place 0 → times_listed place places ≡ 1
present numbers places place is some = is.each place ∙ ap {B = ℕ} (λ t. cond t 1 0) (lt-ltb 0 (get_or numbers place 0) some)

pub weightless : (numbers places : List ℕ) → ListsOnce numbers places → HasWeightsAt numbers places
weightless numbers places is place none = by_test (nat_lt 0 (get_or numbers place 0)) refl where
  by_test : (t : Bool) → nat_lt 0 (get_or numbers place 0) ≡ t → get_or numbers place 0 ≡ 0
  by_test true e = absurd (omega (arith, none, is.each place, ap {B = ℕ} (λ t. cond t 1 0) e))
  by_test false e = omega (arith, ltb-false 0 (get_or numbers place 0) e)

-- one weight is written, and its place alone is listed otherwise
pub once-written : (numbers places places' : List ℕ) (place n : ℕ) → ListsOnce numbers places → place < length numbers
    → ((other : ℕ) → other ≢ place → times_listed other places' ≡ times_listed other places) → times_listed place places' ≡ cond (nat_lt 0 n) 1 0
    → ListsOnce (set numbers place n) places'
once-written numbers places places' place n is within others here = record { each = each } where
  each : (p : ℕ) → times_listed p places' ≡ cond (nat_lt 0 (get_or (set numbers place n) p 0)) 1 0
  each p = by_test (nat_eq p place) refl where
    by_test : (t : Bool) → nat_eq p place ≡ t → times_listed p places' ≡ cond (nat_lt 0 (get_or (set numbers place n) p 0)) 1 0
    by_test true e =
        ap (λ q. times_listed q places') same ∙ here
        ∙ ap {B = ℕ} (λ m. cond (nat_lt 0 m) 1 0) (sym (ap (λ q. get_or (set numbers place n) q 0) same ∙ get_or-set_same numbers place n 0 within))
      where
        same : p ≡ place
        same = eqb-true p place e
    by_test false e = others p other ∙ is.each p ∙ ap {B = ℕ} (λ m. cond (nat_lt 0 m) 1 0) (sym (get_or-set_other numbers place p n 0 other)) where
      other : p ≢ place
      other same = cc (eq-eqb p place same)

-- a weight that stays one
pub once-stays : (numbers places : List ℕ) (place n : ℕ) → ListsOnce numbers places → place < length numbers → 0 < get_or numbers place 0 → 0 < n
    → ListsOnce (set numbers place n) places
once-stays numbers places place n is within was some =
    once-written numbers places places place n is within (λ other apart. refl)
    (present numbers places place is was ∙ sym (ap {B = ℕ} (λ t. cond t 1 0) (lt-ltb 0 n some)))

pub written-stays : (numbers places slots : List ℕ) (place n : ℕ) → IsWeighed numbers places slots → place < length numbers → 0 < get_or numbers place 0 → 0 < n
    → IsWeighed (set numbers place n) places slots
written-stays numbers places slots place n is within was some = record {
  once = once-stays numbers places place n is.once within was some;
  slotted = is.slotted;
  same_length = is.same_length ∙ sym (length-set numbers place n);
}

-- a first weight
pub written-first : (numbers places slots places' slots' : List ℕ) (place n : ℕ) → IsWeighed numbers places slots → place < length numbers → get_or numbers place 0 ≡ 0 → 0 < n
    → places' ≡ places ++ place ∷ [] → HasSlots places' slots' → length slots' ≡ length slots → IsWeighed (set numbers place n) places' slots'
written-first numbers places slots places' slots' place n is within none some listed slotted long = record {
  once = once-written numbers places places' place n is.once within others here;
  slotted = slotted;
  same_length = long ∙ is.same_length ∙ sym (length-set numbers place n);
} where
  others : (other : ℕ) → other ≢ place → times_listed other places' ≡ times_listed other places
  others other apart = omega (arith, ap (times_listed other) listed, times-push other place places, ap {B = ℕ} (λ t. cond t 1 0) (ne_eqb place other (λ same. apart (sym same))))

  here : times_listed place places' ≡ cond (nat_lt 0 n) 1 0
  here =
      omega (
        arith,
        ap (times_listed place) listed,
        times-push place place places,
        ap {B = ℕ} (λ t. cond t 1 0) (eq-eqb place place refl),
        absent numbers places place is.once none,
        ap {B = ℕ} (λ t. cond t 1 0) (lt-ltb 0 n some),
      )

-- a last weight
pub written-last : (numbers places slots places' slots' : List ℕ) (place n : ℕ) → IsWeighed numbers places slots → place < length numbers → 0 < get_or numbers place 0 → n ≡ 0
    → ((other : ℕ) → times_listed other places ≡ times_listed other (place ∷ places')) → HasSlots places' slots' → length slots' ≡ length slots
    → IsWeighed (set numbers place n) places' slots'
written-last numbers places slots places' slots' place n is within was none taken slotted long = record {
  once = once-written numbers places places' place n is.once within others here;
  slotted = slotted;
  same_length = long ∙ is.same_length ∙ sym (length-set numbers place n);
} where
  others : (other : ℕ) → other ≢ place → times_listed other places' ≡ times_listed other places
  others other apart = sym (taken other ∙ times-other other place places' (λ same. apart (sym same)))

  here : times_listed place places' ≡ cond (nat_lt 0 n) 1 0
  here =
      omega (
        arith,
        taken place,
        times-same place place places' refl,
        present numbers places place is.once was,
        ap {B = ℕ} (λ m. cond (nat_lt 0 m) 1 0) none,
      )

-- an account more, without a weight
read-end : (ns : List ℕ) (place : ℕ) → get_or (ns ++ 0 ∷ []) place 0 ≡ get_or ns place 0
read-end [] zero = refl
read-end [] (suc place) = refl
read-end (n ∷ ns) zero = refl
read-end (n ∷ ns) (suc place) = read-end ns place

pub newcomer : (numbers places slots numbers' slots' : List ℕ) → IsWeighed numbers places slots → numbers' ≡ numbers ++ 0 ∷ [] → slots' ≡ slots ++ 0 ∷ []
    → IsWeighed numbers' places slots'
newcomer numbers places slots numbers' slots' is more more' =
    subst (λ ns. IsWeighed ns places slots') (sym more) (subst (IsWeighed (numbers ++ 0 ∷ []) places) (sym more') (record {
      once = record { each = λ p. is.once.each p ∙ ap {B = ℕ} (λ m. cond (nat_lt 0 m) 1 0) (sym (read-end numbers p)) };
      slotted = record {
        known = λ k l. omega (arith, is.slotted.known k l, length-append slots (0 ∷ []));
        stands = λ k l. read-end slots (get_or places k 0) ∙ is.slotted.stands k l;
      };
      same_length = omega (arith, length-append slots (0 ∷ []), length-append numbers (0 ∷ []), is.same_length);
    }))

-- what is left where the next place loses its weight
pub next-left : (numbers places : List ℕ) (i : ℕ) → HasWeightsAt numbers (drop i places) → i < length places → get_or places i 0 < length numbers
    → HasWeightsAt (set numbers (get_or places i 0) 0) (drop (i + 1) places)
next-left numbers places i is within known p none = by_test (nat_eq p (get_or places i 0)) refl where
  by_test : (t : Bool) → nat_eq p (get_or places i 0) ≡ t → get_or (set numbers (get_or places i 0) 0) p 0 ≡ 0
  by_test true e =
      ap (λ q. get_or (set numbers (get_or places i 0) 0) q 0) (eqb-true p (get_or places i 0) e) ∙ get_or-set_same numbers (get_or places i 0) 0 0 known
  by_test false e = get_or-set_other numbers (get_or places i 0) p 0 0 other ∙ is p listed where
    other : p ≢ get_or places i 0
    other same = cc (eq-eqb p (get_or places i 0) same)

    next : i + 1 ≡ suc i
    next = omega arith

    listed : times_listed p (drop i places) ≡ 0
    listed =
        ap (times_listed p) (drop-cons places i 0 within) ∙ times-other p (get_or places i 0) (drop (suc i) places) (λ same. other (sym same))
        ∙ ap (λ j. times_listed p (drop j places)) (sym next) ∙ none

-- all weights are taken back
zeros : (ns : List ℕ) → ((place : ℕ) → get_or ns place 0 ≡ 0) → ns ≡ replicate (length ns) 0
zeros [] none = refl
zeros (n ∷ ns) none = ap₂ (λ m ms. m ∷ ms) (none 0) (zeros ns (λ place. none (suc place)))

pub none-left : (numbers places : List ℕ) (i : ℕ) → HasWeightsAt numbers (drop i places) → length places ≤ i → numbers ≡ replicate (length numbers) 0
none-left numbers places i is ended = zeros numbers (λ place. is place (ap (times_listed place) (drop_all i places ended)))

read-zeros : (n place : ℕ) → get_or (replicate {A = ℕ} n 0) place 0 ≡ 0
read-zeros zero place = refl
read-zeros (suc n) zero = refl
read-zeros (suc n) (suc place) = read-zeros n place

pub cleared : (numbers places slots numbers' places' : List ℕ) → IsWeighed numbers places slots → numbers' ≡ replicate (length numbers) 0 → length numbers' ≡ length numbers
    → places' ≡ [] → IsWeighed numbers' places' slots
cleared numbers places slots numbers' places' is zeroed long none =
    subst (λ ps. IsWeighed numbers' ps slots) (sym none) (record {
      once = record { each = λ p. ap {B = ℕ} (λ m. cond (nat_lt 0 m) 1 0) (sym (ap (λ ns. get_or ns p 0) zeroed ∙ read-zeros (length numbers) p)) };
      slotted = record { known = λ k l. absurd (empty k l); stands = λ k l. absurd (empty k l) };
      same_length = is.same_length ∙ sym long;
    })
  where
    empty : (k : ℕ) → k < 0 → ⊥
    empty k l = omega (arith, l)
