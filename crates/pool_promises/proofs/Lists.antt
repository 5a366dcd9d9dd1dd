-- Where an element stands in a list, and how one worker's numbers rise.
use Rattle.std.proofs.Common.{◌≡◌, ℕ, ◌+◌, ◌<◌, ◌≤◌, List, [], ◌∷◌, ◌++◌, length, refl, ap, ap₂, subst, sym, arith, append_assoc, append-nil}
use Rattle.std.proofs.lemmas.List.Elements.{All-from_recursion, recursion_from_All}
use Rattle.std.proofs.lemmas.List.Sorted.{All-permutation, IsPermutation-append_left, IsPermutation-cons, IsPermutation-refl, IsPermutation-sym, IsPermutation-to_front, IsPermutation-trans}
use Rattle.std.specs.List.{AllByRecursion}
use Rattle.std.specs.List.Sorted.{IsPermutation}
use Rattle.pool_base.specs.Calls.{Call, RiseFrom}
use Rattle.pool_base.proofs.Behind.{all-map}

-- ---- places

-- an element of a list, and the list round it
pub record StandsIn {X : Type 0} (x : X) (xs : List X) : Type 0 where
  pub before : List X
  pub after : List X
  pub parts : xs ≡ before ++ x ∷ after

-- what is so at each place is so of all
pub all_at : {X : Type 0} (P : X → Type 0) (xs : List X) → ((before : List X) (x : X) (after : List X) → xs ≡ before ++ x ∷ after → P x) → AllByRecursion P xs
all_at P [] each = tt
all_at P (x ∷ xs) each = (each [] x xs refl, all_at P xs (λ before y after parts. each (x ∷ before) y after (ap (λ l. x ∷ l) parts)))

pub all_stand : {X : Type 0} (xs : List X) → AllByRecursion (λ x. StandsIn x xs) xs
all_stand xs = all_at (λ x. StandsIn x xs) xs (λ before x after parts. record { before = before; after = after; parts = parts })

pub all_join : {X : Type 0} (P : X → Type 0) (xs ys : List X) → AllByRecursion P xs → AllByRecursion P ys → AllByRecursion P (xs ++ ys)
all_join P [] ys h k = k
all_join P (x ∷ xs) ys h k = (h.0, all_join P xs ys h.1 k)

pub all_parts : {X : Type 0} (P : X → Type 0) (xs ys : List X) → AllByRecursion P (xs ++ ys) → AllByRecursion P xs × AllByRecursion P ys
all_parts P [] ys h = (tt, h)
all_parts P (x ∷ xs) ys h = let rest = all_parts P xs ys h.1 in ((h.0, rest.0), rest.1)

-- of two places the later one stands behind the earlier
pub record StandsLater {X : Type 0} (before before' : List X) (x : X) : Type 0 where
  pub between : List X
  pub parts : before' ≡ before ++ x ∷ between

pub stands_later : {X : Type 0} (before after before' after' : List X) (x y : X) → before ++ x ∷ after ≡ before' ++ y ∷ after' → length before < length before'
    → StandsLater before before' x
stands_later [] after [] after' x y same less = absurd (omega (arith, less))
stands_later [] after (z ∷ before') after' x y same less = record { between = before'; parts = (let heads : z ≡ x = cc in ap (λ e. e ∷ before') heads) }
stands_later (w ∷ before) after [] after' x y same less = absurd (omega (arith, less))
stands_later (w ∷ before) after (z ∷ before') after' x y same less =
    let heads : z ≡ w = cc in
    let tails : before ++ x ∷ after ≡ before' ++ y ∷ after' = cc in
    let fewer : length before < length before' = omega (arith, less) in
    let rest : StandsLater before before' x = stands_later before after before' after' x y tails fewer in
    record { between = rest.between; parts = ap₂ (λ e l. e ∷ l) heads rest.parts }

-- ---- orders

-- the same of the elements in another order
pub all_moved : {X : Type 0} (P : X → Type 0) (xs ys : List X) → IsPermutation xs ys → AllByRecursion P xs → AllByRecursion P ys
all_moved P xs ys moved h = recursion_from_All P ys (All-permutation P xs ys moved (All-from_recursion P xs h))

-- two lists change places
pub changed_places : {X : Type 0} (xs ys : List X) → IsPermutation (xs ++ ys) (ys ++ xs)
changed_places [] ys = subst (λ l. IsPermutation ys l) (sym (append-nil ys)) (IsPermutation-refl ys)
changed_places (x ∷ xs) ys =
    IsPermutation-trans (x ∷ xs ++ ys) (x ∷ ys ++ xs) (ys ++ x ∷ xs) (IsPermutation-cons x (xs ++ ys) (ys ++ xs) (changed_places xs ys))
    (subst (λ l. IsPermutation (x ∷ ys ++ xs) l) (append_assoc ys (x ∷ []) xs)
    (IsPermutation-append_left xs (x ∷ ys) (ys ++ x ∷ []) (IsPermutation-sym (ys ++ x ∷ []) (x ∷ ys) (IsPermutation-to_front ys x))))

-- the second of three comes first
pub to_front : {X : Type 0} (xs ys zs : List X) → IsPermutation (xs ++ (ys ++ zs)) (ys ++ (xs ++ zs))
to_front xs ys zs =
    subst (λ l. IsPermutation l (ys ++ (xs ++ zs))) (append_assoc xs ys zs)
    (subst (λ l. IsPermutation ((xs ++ ys) ++ zs) l) (append_assoc ys xs zs) (IsPermutation-append_left zs (xs ++ ys) (ys ++ xs) (changed_places xs ys)))

-- ---- numbers that rise

pub rise_above : {E Q R F : Type 0} (known : ℕ) (calls : List (Call E Q R F)) (now : ℕ) → RiseFrom known calls now → AllByRecursion (λ c. known ≤ c.number) calls
rise_above known [] now r = tt
rise_above known (call ∷ calls) now r =
    (r.0, all-map (λ c. call.number + 1 ≤ c.number) (λ c. known ≤ c.number) (λ c h. omega (arith, r, h)) calls (rise_above (call.number + 1) calls now r.1))

-- those before a call have lower numbers, and those behind it greater ones
pub record RisesRound {E Q R F : Type 0} (known : ℕ) (before : List (Call E Q R F)) (call : Call E Q R F) (after : List (Call E Q R F)) : Type 0 where
  pub from : known ≤ call.number
  pub lower : AllByRecursion (λ c. c.number < call.number) before
  pub greater : AllByRecursion (λ c. call.number < c.number) after

pub rises_round : {E Q R F : Type 0} (known : ℕ) (before : List (Call E Q R F)) (call : Call E Q R F) (after : List (Call E Q R F)) (now : ℕ)
    → RiseFrom known (before ++ call ∷ after) now → RisesRound known before call after
rises_round known [] call after now r = record {
  from = r.0;
  lower = tt;
  greater = all-map (λ c. call.number + 1 ≤ c.number) (λ c. call.number < c.number) (λ c h. omega (arith, h)) after (rise_above (call.number + 1) after now r.1);
}
rises_round known (first ∷ before) call after now r =
    let rest = rises_round (first.number + 1) before call after now r.1 in
    record { from = omega (arith, r.0, rest.from); lower = (omega (arith, rest.from), rest.lower); greater = rest.greater }
