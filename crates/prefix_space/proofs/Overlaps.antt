-- Strings that overlap: one begins the other.
use Rattle.std.proofs.Common.{◌≡◌, ℕ, zero, suc, ◌<◌, ◌≤◌, Bool, true, false, ◌&&◌, ◌||◌, List, [], ◌∷◌, ◌++◌, length, take, drop, refl, ap, subst, sym, ◌∙◌, arith}
use Rattle.std.proofs.Math.Dec.{eqb}
use Rattle.std.proofs.lemmas.Bool.{and_from, and_parts, eq-eqb, eqb-false, eqb-true, false_from_ne_true, false≢true, ne_eqb, or_from, or_left, or_parts, or_right}
use Rattle.std.proofs.lemmas.List.{take-append-drop}
use Rattle.std.specs.Prelude.{nat_eq}
use Rattle.std.specs.List.{AllByRecursion, list_any, starts_with}
use Rattle.pool_history.specs.Spaces.{overlap}
use Rattle.prefix_space.specs.Paths.{IsShort}
use Rattle.prefix_space.specs.Climbs.{is_front}
use Rattle.prefix_space.specs.Trees.{is_longer}

-- leads that begin with the same byte overlap as the rest does, others don't
pub overlap-same : (x y : ℕ) (a b : List ℕ) → x ≡ y → overlap (x ∷ a) (y ∷ b) ≡ overlap a b
overlap-same x y a b same =
    ap (λ e. (e && starts_with nat_eq a b) || (eqb x y && starts_with nat_eq b a)) (eq-eqb y x (sym same))
    ∙ ap (λ e. starts_with nat_eq a b || (e && starts_with nat_eq b a)) (eq-eqb x y same)

pub overlap-other : (x y : ℕ) (a b : List ℕ) → ¬ (x ≡ y) → overlap (x ∷ a) (y ∷ b) ≡ false
overlap-other x y a b other =
    ap (λ e. (e && starts_with nat_eq a b) || (eqb x y && starts_with nat_eq b a)) (ne_eqb y x (λ same. other (sym same)))
    ∙ ap (λ e. e && starts_with nat_eq b a) (ne_eqb x y other)

pub overlap-nothing : (l : List ℕ) → overlap [] l ≡ true
overlap-nothing l = or_right (starts_with nat_eq [] l) (starts_with nat_eq l []) refl

-- a string that overlaps another is begun by it, or begins it and is shorter
pub overlap-split : (p m : List ℕ) → overlap p m ≡ is_longer p m || is_front m p
overlap-split [] [] = refl
overlap-split [] (y ∷ m) = overlap-nothing (y ∷ m)
overlap-split (x ∷ p) [] = refl
overlap-split (x ∷ p) (y ∷ m) = by_test (eqb x y) refl (overlap-split p m) where
  by_test : (t : Bool) → eqb x y ≡ t → overlap p m ≡ is_longer p m || is_front m p
      → overlap (x ∷ p) (y ∷ m) ≡ (eqb x y && is_longer p m) || (eqb y x && is_front m p)
  by_test true is rest =
      overlap-same x y p m (eqb-true x y is) ∙ rest
      ∙ sym (ap (λ e. (e && is_longer p m) || (eqb y x && is_front m p)) is ∙ ap (λ e. is_longer p m || (e && is_front m p)) (eq-eqb y x (sym (eqb-true x y is))))
  by_test false is rest =
      overlap-other x y p m (eqb-false x y is)
      ∙ sym (ap (λ e. (e && is_longer p m) || (eqb y x && is_front m p)) is ∙ ap (λ e. e && is_front m p) (ne_eqb y x (λ same. eqb-false x y is (sym same))))

pub front-overlap : (m p : List ℕ) → is_front m p ≡ true → overlap p m ≡ true
front-overlap m p h = overlap-split p m ∙ or_right (is_longer p m) (is_front m p) h

pub longer-overlap : (p m : List ℕ) → is_longer p m ≡ true → overlap p m ≡ true
longer-overlap p m h = overlap-split p m ∙ or_left (is_longer p m) (is_front m p) h

-- more bytes overlap no more
pub overlap-shorter : (s t l : List ℕ) → overlap (s ++ t) l ≡ true → overlap s l ≡ true
overlap-shorter [] t l h = overlap-nothing l
overlap-shorter (x ∷ s) t [] h = refl
overlap-shorter (x ∷ s) t (y ∷ l) h = by_test (eqb x y) refl (λ g. overlap-shorter s t l g) where
  by_test : (b : Bool) → eqb x y ≡ b → (overlap (s ++ t) l ≡ true → overlap s l ≡ true) → overlap (x ∷ s) (y ∷ l) ≡ true
  by_test true is rest =
      let same : x ≡ y = eqb-true x y is in
      overlap-same x y s l same ∙ rest (sym (overlap-same x y (s ++ t) l same) ∙ h)
  by_test false is rest = absurd (false≢true (sym (overlap-other x y (s ++ t) l (eqb-false x y is)) ∙ h))

pub apart-more : (s t l : List ℕ) → overlap s l ≡ false → overlap (s ++ t) l ≡ false
apart-more s t l apart =
    false_from_ne_true (overlap (s ++ t) l) (λ is. false≢true (sym apart ∙ overlap-shorter s t l is))

-- what begins a string begins it with more behind it
pub front-more : (l s t : List ℕ) → is_front l s ≡ true → is_front l (s ++ t) ≡ true
front-more [] s t h = refl
front-more (x ∷ l) [] t h = absurd (false≢true h)
front-more (x ∷ l) (y ∷ s) t h =
    let parts : (eqb x y ≡ true) × (is_front l s ≡ true) = and_parts (eqb x y) (is_front l s) h in
    and_from (eqb x y) (is_front l (s ++ t)) parts.0 (front-more l s t parts.1)

pub front-take : (m l : List ℕ) (k : ℕ) → is_front m (take k l) ≡ true → is_front m l ≡ true
front-take m l k h = subst (λ s. is_front m s ≡ true) (take-append-drop k l) (front-more m (take k l) (drop k l) h)

pub front-itself : (l : List ℕ) → is_front l l ≡ true
front-itself [] = refl
front-itself (x ∷ l) = and_from (eqb x x) (is_front l l) (eq-eqb x x refl) (front-itself l)

pub front-short : (l s : List ℕ) → is_front l s ≡ true → length l ≤ length s
front-short [] s h = omega arith
front-short (x ∷ l) [] h = absurd (false≢true h)
front-short (x ∷ l) (y ∷ s) h =
    let rest : length l ≤ length s = front-short l s (and_parts (eqb x y) (is_front l s) h).1 in
    omega (arith, rest)

pub not-front : (l s : List ℕ) → length s < length l → is_front l s ≡ false
not-front l s longer =
    false_from_ne_true (is_front l s) (λ is. let short : length l ≤ length s = front-short l s is in omega (arith, short, longer))

-- a lead behind a string that another begins overlaps that one
pub longer-front : (l p m : List ℕ) → is_front l p ≡ true → is_longer p m ≡ true → overlap l m ≡ true
longer-front [] p m front longer = overlap-nothing m
longer-front (x ∷ l) [] m front longer = absurd (false≢true front)
longer-front (x ∷ l) (y ∷ p) [] front longer = absurd (false≢true longer)
longer-front (x ∷ l) (y ∷ p) (z ∷ m) front longer =
    let left : (eqb x y ≡ true) × (is_front l p ≡ true) = and_parts (eqb x y) (is_front l p) front in
    let right : (eqb y z ≡ true) × (is_longer p m ≡ true) = and_parts (eqb y z) (is_longer p m) longer in
    overlap-same x z l m (eqb-true x y left.0 ∙ eqb-true y z right.0) ∙ longer-front l p m left.1 right.1

pub longer-long : (p m : List ℕ) → is_longer p m ≡ true → length p < length m
longer-long [] [] h = absurd (false≢true h)
longer-long [] (y ∷ m) h = omega arith
longer-long (x ∷ p) [] h = absurd (false≢true h)
longer-long (x ∷ p) (y ∷ m) h =
    let rest : length p < length m = longer-long p m (and_parts (eqb x y) (is_longer p m) h).1 in
    omega (arith, rest)

-- a string that a lead goes on from is its front
pub longer-take : (p m : List ℕ) → is_longer p m ≡ true → p ≡ take (length p) m
longer-take [] m h = refl
longer-take (x ∷ p) [] h = absurd (false≢true h)
longer-take (x ∷ p) (y ∷ m) h =
    let parts : (eqb x y ≡ true) × (is_longer p m ≡ true) = and_parts (eqb x y) (is_longer p m) h in
    let same : x ≡ y = eqb-true x y parts.0 in
    let rest : p ≡ take (length p) m = longer-take p m parts.1 in
    ap (λ n. n ∷ p) same ∙ ap (λ l. y ∷ l) rest

pub take-longer : (k : ℕ) (m : List ℕ) → k < length m → is_longer (take k m) m ≡ true
take-longer k [] below = absurd (omega (arith, below))
take-longer zero (y ∷ m) below = refl
take-longer (suc k) (y ∷ m) below = and_from (eqb y y) (is_longer (take k m) m) (eq-eqb y y refl) (take-longer k m (omega (arith, below)))

-- the next byte of a lead that goes on
pub longer-next : (p m : List ℕ) → AllByRecursion (λ byte. byte < 256) m → is_longer p m ≡ true → (c : ℕ) × (c < 256) × (overlap (p ++ c ∷ []) m ≡ true)
longer-next [] [] each h = absurd (false≢true h)
longer-next [] (y ∷ m) each h = (y, each.0, overlap-same y y [] m refl ∙ overlap-nothing m)
longer-next (x ∷ p) [] each h = absurd (false≢true h)
longer-next (x ∷ p) (y ∷ m) each h =
    let parts : (eqb x y ≡ true) × (is_longer p m ≡ true) = and_parts (eqb x y) (is_longer p m) h in
    let rest : (c : ℕ) × (c < 256) × (overlap (p ++ c ∷ []) m ≡ true) = longer-next p m each.1 parts.1 in
    (rest.0, rest.1, overlap-same x y (p ++ rest.0 ∷ []) m (eqb-true x y parts.0) ∙ rest.2)

pub step-longer : (p m : List ℕ) (c : ℕ) → is_front m p ≡ false → overlap (p ++ c ∷ []) m ≡ true → is_longer p m ≡ true
step-longer [] [] c front h = absurd (false≢true (sym front))
step-longer [] (y ∷ m) c front h = refl
step-longer (x ∷ p) [] c front h = absurd (false≢true (sym front))
step-longer (x ∷ p) (y ∷ m) c front h = by_test (eqb x y) refl (λ f g. step-longer p m c f g) where
  by_test : (b : Bool) → eqb x y ≡ b → (is_front m p ≡ false → overlap (p ++ c ∷ []) m ≡ true → is_longer p m ≡ true) → eqb x y && is_longer p m ≡ true
  by_test true is rest =
      let same : x ≡ y = eqb-true x y is in
      let off : is_front m p ≡ false = sym (ap (λ e. e && is_front m p) (eq-eqb y x (sym same))) ∙ front in
      and_from (eqb x y) (is_longer p m) is (rest off (sym (overlap-same x y (p ++ c ∷ []) m same) ∙ h))
  by_test false is rest = absurd (false≢true (sym (overlap-other x y (p ++ c ∷ []) m (eqb-false x y is)) ∙ h))

pub step-apart : (p m : List ℕ) (c : ℕ) → is_front m p ≡ false → is_longer p m ≡ false → overlap (p ++ c ∷ []) m ≡ false
step-apart p m c front longer =
    false_from_ne_true (overlap (p ++ c ∷ []) m) (λ is. false≢true (sym longer ∙ step-longer p m c front is))

-- a byte behind a prefix is off a lead's way
pub off-way : (p l : List ℕ) (byte : ℕ) → is_front l p ≡ false → (length p < length l → p ++ byte ∷ [] ≡ take (suc (length p)) l → ⊥) → overlap (p ++ byte ∷ []) l ≡ false
off-way [] [] byte front off = absurd (false≢true (sym front))
off-way [] (y ∷ l) byte front off = by_test (eqb byte y) refl where
  by_test : (b : Bool) → eqb byte y ≡ b → overlap (byte ∷ []) (y ∷ l) ≡ false
  by_test true is = absurd (off (omega arith) (ap (λ n. n ∷ []) (eqb-true byte y is)))
  by_test false is = overlap-other byte y [] l (eqb-false byte y is)
off-way (x ∷ p) [] byte front off = absurd (false≢true (sym front))
off-way (x ∷ p) (y ∷ l) byte front off = by_test (eqb x y) refl (λ f g. off-way p l byte f g) where
  by_test : (b : Bool) → eqb x y ≡ b
      → (is_front l p ≡ false → (length p < length l → p ++ byte ∷ [] ≡ take (suc (length p)) l → ⊥) → overlap (p ++ byte ∷ []) l ≡ false)
      → overlap (x ∷ p ++ byte ∷ []) (y ∷ l) ≡ false
  by_test true is rest =
      let same : x ≡ y = eqb-true x y is in
      overlap-same x y (p ++ byte ∷ []) l same
      ∙ rest (sym (ap (λ e. e && is_front l p) (eq-eqb y x (sym same))) ∙ front)
      (λ below is-front. off (omega (arith, below)) (ap (λ n. n ∷ p ++ byte ∷ []) same ∙ ap (λ s. y ∷ s) is-front))
  by_test false is rest = overlap-other x y (p ++ byte ∷ []) l (eqb-false x y is)

-- what a list of leads has
pub any-weaken : {X : Type 0} (f g : X → Bool) → ((x : X) → f x ≡ true → g x ≡ true) → (xs : List X) → list_any f xs ≡ true → list_any g xs ≡ true
any-weaken f g h [] any = any
any-weaken f g h (x ∷ xs) any = by_test (f x) refl any (λ later. any-weaken f g h xs later) where
  by_test : (b : Bool) → f x ≡ b → f x || list_any f xs ≡ true → (list_any f xs ≡ true → list_any g xs ≡ true) → g x || list_any g xs ≡ true
  by_test true is any' rest = or_left (g x) (list_any g xs) (h x is)
  by_test false is any' rest = or_right (g x) (list_any g xs) (rest (sym (ap (λ e. e || list_any f xs) is) ∙ any'))

pub none-weaken : {X : Type 0} (f g : X → Bool) → ((x : X) → g x ≡ true → f x ≡ true) → (xs : List X) → list_any f xs ≡ false → list_any g xs ≡ false
none-weaken f g h xs none =
    false_from_ne_true (list_any g xs) (λ is. false≢true (sym none ∙ any-weaken g f h xs is))

pub none-more : (s t : List ℕ) (held : List (List ℕ)) → list_any (overlap s) held ≡ false → list_any (overlap (s ++ t)) held ≡ false
none-more s t held none = none-weaken (overlap s) (overlap (s ++ t)) (λ m h. overlap-shorter s t m h) held none

-- nothing overlaps a string that nothing goes on from or begins
pub none-overlaps : (p : List ℕ) (held : List (List ℕ)) → list_any (is_longer p) held ≡ false → list_any (λ m. is_front m p) held ≡ false
    → list_any (overlap p) held ≡ false
none-overlaps p [] longer front = refl
none-overlaps p (m ∷ held) longer front =
    let no-longer : (is_longer p m ≡ false) × (list_any (is_longer p) held ≡ false) = or_parts (is_longer p m) (list_any (is_longer p) held) longer in
    let no-front : (is_front m p ≡ false) × (list_any (λ l. is_front l p) held ≡ false) = or_parts (is_front m p) (list_any (λ l. is_front l p) held) front in
    or_from (overlap p m) (list_any (overlap p) held) (overlap-split p m ∙ or_from (is_longer p m) (is_front m p) no-longer.0 no-front.0)
    (none-overlaps p held no-longer.1 no-front.1)

pub none-steps : (p : List ℕ) (c : ℕ) (held : List (List ℕ)) → list_any (is_longer p) held ≡ false → list_any (λ m. is_front m p) held ≡ false
    → list_any (overlap (p ++ c ∷ [])) held ≡ false
none-steps p c held longer front = none-more p (c ∷ []) held (none-overlaps p held longer front)

pub any-next : (p : List ℕ) (held : List (List ℕ)) → AllByRecursion IsShort held → list_any (is_longer p) held ≡ true
    → (c : ℕ) × (c < 256) × (list_any (overlap (p ++ c ∷ [])) held ≡ true)
any-next p [] short any = absurd (false≢true any)
any-next p (m ∷ held) short any = by_test (is_longer p m) refl any (λ later. any-next p held short.1 later) where
  by_test : (b : Bool) → is_longer p m ≡ b → is_longer p m || list_any (is_longer p) held ≡ true
      → (list_any (is_longer p) held ≡ true → (c : ℕ) × (c < 256) × (list_any (overlap (p ++ c ∷ [])) held ≡ true))
      → (c : ℕ) × (c < 256) × (overlap (p ++ c ∷ []) m || list_any (overlap (p ++ c ∷ [])) held ≡ true)
  by_test true is any' rest =
      let next : (c : ℕ) × (c < 256) × (overlap (p ++ c ∷ []) m ≡ true) = longer-next p m short.0.each is in
      (next.0, next.1, or_left (overlap (p ++ next.0 ∷ []) m) (list_any (overlap (p ++ next.0 ∷ [])) held) next.2)
  by_test false is any' rest =
      let next : (c : ℕ) × (c < 256) × (list_any (overlap (p ++ c ∷ [])) held ≡ true) = rest (sym (ap (λ e. e || list_any (is_longer p) held) is) ∙ any') in
      (next.0, next.1, or_right (overlap (p ++ next.0 ∷ []) m) (list_any (overlap (p ++ next.0 ∷ [])) held) next.2)

-- none begins a front of a lead that nothing overlaps
pub clear-front : (l : List ℕ) (k : ℕ) (held : List (List ℕ)) → list_any (overlap l) held ≡ false → list_any (λ m. is_front m (take k l)) held ≡ false
clear-front l k held none = none-weaken (overlap l) (λ m. is_front m (take k l)) (λ m h. front-overlap m l (front-take m l k h)) held none

-- a prefix that a lead goes on from isn't inside a lead that the others don't overlap
pub node-off : (l p : List ℕ) (held : List (List ℕ)) → 1 ≤ length l → list_any (overlap l) held ≡ false → list_any (is_longer p) (l ∷ held) ≡ true → is_front l p ≡ false
node-off l p held some none any = false_from_ne_true (is_front l p) (λ is. by_own is (is_longer p l) refl) where
  by_own : is_front l p ≡ true → (b : Bool) → is_longer p l ≡ b → ⊥
  by_own is true own =
      let short : length l ≤ length p = front-short l p is in
      let long : length p < length l = longer-long p l own in
      omega (arith, short, long)
  by_own is false own =
      false≢true (sym none ∙ any-weaken (is_longer p) (overlap l) (λ m h. longer-front l p m is h) held (sym (ap (λ e. e || list_any (is_longer p) held) own) ∙ any))
