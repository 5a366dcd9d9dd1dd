-- Sums over lists, and over lists that are picked by their accounts.
use Rattle.std.proofs.Common.{◌≡◌, ℕ, ◌+◌, Bool, true, false, cond, not, ◌||◌, bytes_eq, filter, map, sum_by, List, [], ◌∷◌, ◌++◌, refl, sym, ap, ap₂, ◌∙◌, arith}
use Rattle.std.specs.List.{AllByRecursion, list_any}
use Rattle.std.proofs.lemmas.Bool.{and_parts, both_ways, not-true, or_parts, false≢true}
use Rattle.std.proofs.lemmas.List.Sums.{sum_by-cons}
use Rattle.std.proofs.lemmas.Slice.Eq.{bytes_eq-Decides}
use Rattle.pool_history.specs.Accounts.{are_distinct}

-- sums of the same terms, of none, of two terms each, and over a changed list
pub sum_by-same : {X : Type 0} (f g : X → ℕ) (xs : List X) → ((x : X) → f x ≡ g x) → sum_by f xs ≡ sum_by g xs
sum_by-same f g [] h = refl
sum_by-same f g (x ∷ xs) h = sum_by-cons f x xs ∙ ap₂ (λ a b. a + b) (h x) (sum_by-same f g xs h) ∙ sym (sum_by-cons g x xs)

pub sum_by-none : {X : Type 0} (f : X → ℕ) (xs : List X) → ((x : X) → f x ≡ 0) → sum_by f xs ≡ 0
sum_by-none f [] h = refl
sum_by-none f (x ∷ xs) h = omega (arith, sum_by-cons f x xs, h x, sum_by-none f xs h)

pub sum_by-plus : {X : Type 0} (f g : X → ℕ) (xs : List X) → sum_by (λ x. f x + g x) xs ≡ sum_by f xs + sum_by g xs
sum_by-plus f g [] = refl
sum_by-plus f g (x ∷ xs) = omega (arith, sum_by-cons (λ x. f x + g x) x xs, sum_by-cons f x xs, sum_by-cons g x xs, sum_by-plus f g xs)

pub sum_by-map : {X Y : Type 0} (f : Y → ℕ) (h : X → Y) (xs : List X) → sum_by f (map h xs) ≡ sum_by (λ x. f (h x)) xs
sum_by-map f h [] = refl
sum_by-map f h (x ∷ xs) = sum_by-cons f (h x) (map h xs) ∙ ap (λ n. f (h x) + n) (sum_by-map f h xs) ∙ sym (sum_by-cons (λ x. f (h x)) x xs)

-- sums in two orders
pub sum_by-swap : {X Y : Type 0} (f : X → Y → ℕ) (xs : List X) (ys : List Y)
    → sum_by (λ x. sum_by (f x) ys) xs ≡ sum_by (λ y. sum_by (λ x. f x y) xs) ys
sum_by-swap f [] ys = sym (sum_by-none (λ y. 0) ys (λ y. refl))
sum_by-swap f (x ∷ xs) ys =
    sum_by-cons (λ x. sum_by (f x) ys) x xs ∙ ap (λ n. sum_by (f x) ys + n) (sum_by-swap f xs ys)
    ∙ sym (sum_by-plus (f x) (λ y. sum_by (λ x. f x y) xs) ys)
    ∙ sym (sum_by-same (λ y. sum_by (λ x. f x y) (x ∷ xs)) (λ y. f x y + sum_by (λ x. f x y) xs) ys (λ y. sum_by-cons (λ x. f x y) x xs))

-- an element that is kept or not
pub sum_by-kept : {X : Type 0} (f : X → ℕ) (b : Bool) (x : X) (xs : List X)
    → sum_by f (cond b (x ∷ xs) xs) ≡ cond b (f x) 0 + sum_by f xs
sum_by-kept f true x xs = sum_by-cons f x xs
sum_by-kept f false x xs = omega arith

-- a sum over those that pass a test
pub sum_by-filter : {X : Type 0} (f : X → ℕ) (p : X → Bool) (xs : List X)
    → sum_by f (filter p xs) ≡ sum_by (λ x. cond (p x) (f x) 0) xs
sum_by-filter f p [] = refl
sum_by-filter f p (x ∷ xs) =
    sum_by-kept f (p x) x (filter p xs) ∙ ap (λ n. cond (p x) (f x) 0 + n) (sum_by-filter f p xs)
    ∙ sym (sum_by-cons (λ x. cond (p x) (f x) 0) x xs)

-- all of a list that is joined, and one of it
pub all-append : {X : Type 0} (P : X → Type 0) (xs ys : List X) → AllByRecursion P xs → AllByRecursion P ys → AllByRecursion P (xs ++ ys)
all-append P [] ys a b = b
all-append P (x ∷ xs) ys a b = (a.0, all-append P xs ys a.1 b)

pub all-behind : {X : Type 0} (P : X → Type 0) (xs ys : List X) → AllByRecursion P (xs ++ ys) → AllByRecursion P ys
all-behind P [] ys a = a
all-behind P (x ∷ xs) ys a = all-behind P xs ys a.1

pub all-weaker : {X : Type 0} (P Q : X → Type 0) (xs : List X) → ((x : X) → P x → Q x) → AllByRecursion P xs → AllByRecursion Q xs
all-weaker P Q [] h a = tt
all-weaker P Q (x ∷ xs) h a = (h x a.0, all-weaker P Q xs h a.1)

-- texts are compared either way
pub bytes_eq-turned : (a b : List ℕ) → bytes_eq a b ≡ bytes_eq b a
bytes_eq-turned a b = by_answer (bytes_eq a b) (bytes_eq b a) refl refl where
  by_answer : (x y : Bool) → bytes_eq a b ≡ x → bytes_eq b a ≡ y → x ≡ y
  by_answer true true p q = refl
  by_answer false false p q = refl
  by_answer true false p q =
      let same : a ≡ b = (bytes_eq-Decides a b).0 p in
      absurd (both_ways (bytes_eq b a) q ((bytes_eq-Decides b a).1 (sym same)))
  by_answer false true p q =
      let same : b ≡ a = (bytes_eq-Decides b a).0 q in
      absurd (both_ways (bytes_eq a b) p ((bytes_eq-Decides a b).1 (sym same)))

-- an account among accounts that are distinct is met once, and one that isn't there never
pub met_never : (h : List ℕ → ℕ) (a : List ℕ) (accounts : List (List ℕ)) → list_any (bytes_eq a) accounts ≡ false
    → sum_by (λ b. cond (bytes_eq a b) (h b) 0) accounts ≡ 0
met_never h a [] none = refl
met_never h a (b ∷ bs) none =
    let parts : (bytes_eq a b ≡ false) × (list_any (bytes_eq a) bs ≡ false) = or_parts (bytes_eq a b) (list_any (bytes_eq a) bs) none in
    sum_by-cons (λ b. cond (bytes_eq a b) (h b) 0) b bs
    ∙ ap₂ (λ t n. cond t (h b) 0 + n) parts.0 (met_never h a bs parts.1)

pub met_once : (h : List ℕ → ℕ) (a : List ℕ) (accounts : List (List ℕ)) → are_distinct accounts ≡ true
    → list_any (bytes_eq a) accounts ≡ true → sum_by (λ b. cond (bytes_eq a b) (h b) 0) accounts ≡ h a
met_once h a [] distinct there = absurd (false≢true there)
met_once h a (b ∷ bs) distinct there = by_first (bytes_eq a b) refl (λ more. met_once h a bs parts.1 more) where
  parts : (not (list_any (bytes_eq b) bs) ≡ true) × (are_distinct bs ≡ true)
  parts = and_parts (not (list_any (bytes_eq b) bs)) (are_distinct bs) distinct

  by_first : (t : Bool) → bytes_eq a b ≡ t
      → (list_any (bytes_eq a) bs ≡ true → sum_by (λ b. cond (bytes_eq a b) (h b) 0) bs ≡ h a)
      → sum_by (λ b. cond (bytes_eq a b) (h b) 0) (b ∷ bs) ≡ h a
  by_first true e rest =
      let same : a ≡ b = (bytes_eq-Decides a b).0 e in
      let none : list_any (bytes_eq a) bs ≡ false =
      ap (λ c. list_any (bytes_eq c) bs) same ∙ not-true (list_any (bytes_eq b) bs) parts.0 in
      sum_by-cons (λ b. cond (bytes_eq a b) (h b) 0) b bs
      ∙ ap₂ (λ t n. cond t (h b) 0 + n) e (met_never h a bs none) ∙ ended (ap h (sym same))
    where
      ended : h b ≡ h a → h b + 0 ≡ h a
      ended g = omega (arith, g)
  by_first false e rest =
      sum_by-cons (λ b. cond (bytes_eq a b) (h b) 0) b bs
      ∙ ap₂ (λ t n. cond t (h b) 0 + n) e (rest (sym (ap (λ t. t || list_any (bytes_eq a) bs) e) ∙ there)) ∙ started
    where
      started : 0 + h a ≡ h a
      started = omega arith

-- what is summed for each of the accounts apart is all that is summed
pub sum_by-accounts : {X : Type 0} (key : X → List ℕ) (f : X → ℕ) (accounts : List (List ℕ)) (xs : List X)
    → are_distinct accounts ≡ true → AllByRecursion (λ x. list_any (bytes_eq (key x)) accounts ≡ true) xs
    → sum_by (λ a. sum_by f (filter (λ x. bytes_eq (key x) a) xs)) accounts ≡ sum_by f xs
sum_by-accounts key f accounts [] distinct all = sum_by-none (λ a. 0) accounts (λ a. refl)
sum_by-accounts key f accounts (x ∷ xs) distinct all =
    sum_by-same (λ a. sum_by f (filter (λ x. bytes_eq (key x) a) (x ∷ xs)))
    (λ a. cond (bytes_eq (key x) a) (f x) 0 + sum_by f (filter (λ x. bytes_eq (key x) a) xs)) accounts
    (λ a. sum_by-kept f (bytes_eq (key x) a) x (filter (λ x. bytes_eq (key x) a) xs))
    ∙ sum_by-plus (λ a. cond (bytes_eq (key x) a) (f x) 0) (λ a. sum_by f (filter (λ x. bytes_eq (key x) a) xs)) accounts
    ∙ ap₂ (λ m n. m + n) (met_once (λ a. f x) (key x) accounts distinct all.0) (sum_by-accounts key f accounts xs distinct all.1)
    ∙ sym (sum_by-cons f x xs)
