-- Lists with one element changed, and one more.
use Rattle.std.proofs.Common.{◌≡◌, ℕ, zero, suc, Bool, true, false, cond, Option, None, Some, List, [], ◌∷◌, ◌++◌, length, map, refl, ap, subst, sym, ◌∙◌}
use Rattle.std.specs.Prelude.{filter, slice_get}
use Rattle.std.specs.List.{AllByRecursion}
use Rattle.event_store.specs.Index.{changed, changed_from}

-- behind the first element
pub changed-suc : {X : Type 0} (f : X → X) (x : X) (xs : List X) (k : ℕ) → changed f (x ∷ xs) (suc k) ≡ x ∷ changed f xs k
changed-suc {X = X} f x xs k = by (slice_get xs k) where
  by : (o : Option X) → changed_from f (x ∷ xs) (suc k) o ≡ x ∷ changed_from f xs k o
  by None = refl
  by (Some y) = refl

-- what is read of an element that was changed, or of one more
pub read-changed : {X Y : Type 0} (v : Option X → Y) (f : X → X) → ((x : X) → v (Some (f x)) ≡ v (Some x)) → (xs : List X) (k s : ℕ)
    → v (slice_get (changed f xs k) s) ≡ v (slice_get xs s)
read-changed v f same [] k s = refl
read-changed v f same (x ∷ xs) zero zero = same x
read-changed v f same (x ∷ xs) zero (suc s) = refl
read-changed v f same (x ∷ xs) (suc k) zero = ap (λ l. v (slice_get l 0)) (changed-suc f x xs k)
read-changed v f same (x ∷ xs) (suc k) (suc s) = ap (λ l. v (slice_get l (suc s))) (changed-suc f x xs k) ∙ read-changed v f same xs k s

pub read-end : {X Y : Type 0} (v : Option X → Y) (xs : List X) (m : X) (s : ℕ) → v (Some m) ≡ v None → v (slice_get (xs ++ m ∷ []) s) ≡ v (slice_get xs s)
read-end v [] m zero same = same
read-end v [] m (suc s) same = refl
read-end v (x ∷ xs) m zero same = refl
read-end v (x ∷ xs) m (suc s) same = read-end v xs m s same

-- what is read of each
pub map-changed : {X Y : Type 0} (g : X → Y) (f : X → X) → ((x : X) → g (f x) ≡ g x) → (xs : List X) (k : ℕ) → map g (changed f xs k) ≡ map g xs
map-changed g f same [] k = refl
map-changed g f same (x ∷ xs) zero = ap (λ y. y ∷ map g xs) (same x)
map-changed g f same (x ∷ xs) (suc k) = ap (map g) (changed-suc f x xs k) ∙ ap (λ l. g x ∷ l) (map-changed g f same xs k)

pub length-changed : {X : Type 0} (f : X → X) (xs : List X) (k : ℕ) → length (changed f xs k) ≡ length xs
length-changed f [] k = refl
length-changed f (x ∷ xs) zero = refl
length-changed f (x ∷ xs) (suc k) = ap length (changed-suc f x xs k) ∙ ap suc (length-changed f xs k)

-- what passes a test that sees no difference
pub filter-changed : {X Y : Type 0} (p : X → Bool) (g : X → Y) (f : X → X) → ((x : X) → p (f x) ≡ p x) → ((x : X) → g (f x) ≡ g x) → (xs : List X) (k : ℕ)
    → map g (filter p (changed f xs k)) ≡ map g (filter p xs)
filter-changed p g f passes same [] k = refl
filter-changed p g f passes same (x ∷ xs) zero =
    ap (λ b. map g (cond b (f x ∷ filter p xs) (filter p xs))) (passes x) ∙ by (p x) where
      by : (b : Bool) → map g (cond b (f x ∷ filter p xs) (filter p xs)) ≡ map g (cond b (x ∷ filter p xs) (filter p xs))
      by true = ap (λ y. y ∷ map g (filter p xs)) (same x)
      by false = refl
filter-changed p g f passes same (x ∷ xs) (suc k) = ap (λ l. map g (filter p l)) (changed-suc f x xs k) ∙ by (filter-changed p g f passes same xs k) (p x) where
  by : map g (filter p (changed f xs k)) ≡ map g (filter p xs) → (b : Bool) → map g (cond b (x ∷ filter p (changed f xs k)) (filter p (changed f xs k))) ≡ map g (cond b (x ∷ filter p xs) (filter p xs))
  by rest true = ap (λ l. g x ∷ l) rest
  by rest false = rest

-- a fact of each element stays
pub all-changed : {X : Type 0} (P : X → Type 0) (f : X → X) → ((x : X) → P x → P (f x)) → (xs : List X) (k : ℕ) → AllByRecursion P xs → AllByRecursion P (changed f xs k)
all-changed P f keeps [] k a = tt
all-changed P f keeps (x ∷ xs) zero a = (keeps x a.0, a.1)
all-changed P f keeps (x ∷ xs) (suc k) a = subst (AllByRecursion P) (sym (changed-suc f x xs k)) (a.0, all-changed P f keeps xs k a.1)

-- the element at the end, and those before
pub get-end : {X : Type 0} (xs : List X) (x : X) (ys : List X) → slice_get (xs ++ x ∷ ys) (length xs) ≡ Some x
get-end [] x ys = refl
get-end (y ∷ xs) x ys = get-end xs x ys

pub get-front : {X : Type 0} (xs ys : List X) (k : ℕ) (x : X) → slice_get xs k ≡ Some x → slice_get (xs ++ ys) k ≡ Some x
get-front [] ys k x is = absurd cc
get-front (y ∷ xs) ys zero x is = is
get-front (y ∷ xs) ys (suc k) x is = get-front xs ys k x is

pub map-length : {X Y : Type 0} (f : X → Y) (xs : List X) → length (map f xs) ≡ length xs
map-length f [] = refl
map-length f (x ∷ xs) = ap suc (map-length f xs)
