-- Entries in the order of their ids are found, changed and removed as they are kept in whatever order.
use Rattle.std.proofs.Common.{◌≡◌, ℕ, ◌<◌, ◌≤◌, Bool, true, false, cond, Option, None, Some, List, [], ◌∷◌, ◌++◌, map, refl, ap, subst, sym, ◌∙◌, arith}
use Rattle.std.proofs.Math.Dec.{eqb}
use Rattle.std.proofs.lemmas.Bool.{eq-eqb, eqb-true, false≢true, lt-ltb, ltb-false, ltb-true, ne_eqb}
use Rattle.std.specs.List.{AllByRecursion, IsDistinct}
use Rattle.std.specs.Map.{keys_of, lookup, remove_entry}
use Rattle.std.specs.Option.{option_map}
use Rattle.std.specs.Prelude.{nat_lt}
use Rattle.history_laws.proofs.Entrances.{none-some, some-same}
use Rattle.history_laws.proofs.Legalities.{some-none}
use Rattle.pool_history.proofs.PlacesOfClasses.{all-weaken}
use Rattle.channels.specs.Orders.{by_id, with_entry}

-- ids rise
abbrev pub AreRising : {X : Type 0} → List (ℕ × X) → Type 0
AreRising [] = Unit {0}
AreRising (e ∷ later) = AllByRecursion (λ d. e.0 < d.0) later × AreRising later

differ : (a b : ℕ) → eqb a b ≡ false → a ≡ b → ⊥
differ a b is same = false≢true (sym is ∙ eq-eqb a b same)

module _ {X : Type 0} where
  -- what holds of all, and of one among them
  all-with : (P : ℕ × X → Type 0) (e : ℕ × X) (l : List (ℕ × X)) → P e → AllByRecursion P l → AllByRecursion P (with_entry e l)
  all-with P e [] one all = (one, tt)
  all-with P e (f ∷ l) one all = by_test (nat_lt e.0 f.0) (all-with P e l one all.1) where
    by_test : (t : Bool) → AllByRecursion P (with_entry e l) → AllByRecursion P (cond t (e ∷ f ∷ l) (f ∷ with_entry e l))
    by_test true rest = (one, all)
    by_test false rest = (all.0, rest)

  all-by_id : (P : ℕ × X → Type 0) (es : List (ℕ × X)) → AllByRecursion P es → AllByRecursion P (by_id es)
  all-by_id P [] all = tt
  all-by_id P (e ∷ es) all = all-with P e (by_id es) all.0 (all-by_id P es all.1)

  with-all : (P : ℕ × X → Type 0) (e : ℕ × X) (l : List (ℕ × X)) → AllByRecursion P (with_entry e l) → P e × AllByRecursion P l
  with-all P e [] all = (all.0, tt)
  with-all P e (f ∷ l) all = by_test (nat_lt e.0 f.0) all (λ later. with-all P e l later) where
    by_test : (t : Bool) → AllByRecursion P (cond t (e ∷ f ∷ l) (f ∷ with_entry e l)) → (AllByRecursion P (with_entry e l) → P e × AllByRecursion P l)
        → P e × AllByRecursion P (f ∷ l)
    by_test true all rest = (all.0, all.1)
    by_test false all rest = ((rest all.1).0, (all.0, (rest all.1).1))

  pub by_id-all : (P : ℕ × X → Type 0) (es : List (ℕ × X)) → AllByRecursion P (by_id es) → AllByRecursion P es
  by_id-all P [] all = tt
  by_id-all P (e ∷ es) all = ((with-all P e (by_id es) all).0, by_id-all P es (with-all P e (by_id es) all).1)

  -- ids that are told apart rise
  all-keys : (id : ℕ) (es : List (ℕ × X)) → AllByRecursion (λ k. eqb id k ≡ false) (keys_of es) → AllByRecursion (λ d. eqb id d.0 ≡ false) es
  all-keys id [] all = tt
  all-keys id (e ∷ es) all = (all.0, all-keys id es all.1)

  rising-with : (e : ℕ × X) (l : List (ℕ × X)) → AllByRecursion (λ d. eqb e.0 d.0 ≡ false) l → AreRising l → AreRising (with_entry e l)
  rising-with e [] apart rising = (tt, tt)
  rising-with e (f ∷ l) apart rising = by_test (nat_lt e.0 f.0) refl (rising-with e l apart.1 rising.1) where
    by_test : (t : Bool) → nat_lt e.0 f.0 ≡ t → AreRising (with_entry e l) → AreRising (cond t (e ∷ f ∷ l) (f ∷ with_entry e l))
    by_test true is rest =
        let below : e.0 < f.0 = ltb-true e.0 f.0 is in
        ((below, all-weaken (λ d. f.0 < d.0) (λ d. e.0 < d.0) (λ d above. omega (arith, below, above)) l rising.0), rising)
    by_test false is rest =
        let above : f.0 ≤ e.0 = ltb-false e.0 f.0 is in
        let other : e.0 ≡ f.0 → ⊥ = differ e.0 f.0 apart.0 in
        (all-with (λ d. f.0 < d.0) e l (omega (arith, above, other)) rising.0, rest)

  pub rising-by_id : (es : List (ℕ × X)) → IsDistinct eqb (keys_of es) → AreRising (by_id es)
  unfolding IsDistinct
  rising-by_id [] apart = tt
  rising-by_id (e ∷ es) apart =
      rising-with e (by_id es) (all-by_id (λ d. eqb e.0 d.0 ≡ false) es (all-keys e.0 es apart.0)) (rising-by_id es apart.1)

  -- and those that rise are told apart
  apart-above : (id : ℕ) (es : List (ℕ × X)) → AllByRecursion (λ d. id < d.0) es → AllByRecursion (λ k. eqb id k ≡ false) (keys_of es)
  apart-above id [] all = tt
  apart-above id (e ∷ es) all = let above : id < e.0 = all.0 in (ne_eqb id e.0 (λ same. omega (arith, above, same)), apart-above id es all.1)

  pub distinct-rising : (es : List (ℕ × X)) → AreRising es → IsDistinct eqb (keys_of es)
  unfolding IsDistinct
  distinct-rising [] rising = tt
  distinct-rising (e ∷ es) rising = (apart-above e.0 es rising.0, distinct-rising es rising.1)

  -- the same is found
  lookup-with : (id : ℕ) (e : ℕ × X) (l : List (ℕ × X)) → AllByRecursion (λ d. eqb e.0 d.0 ≡ false) l
      → lookup (eqb id) (with_entry e l) ≡ cond (eqb id e.0) (Some e.1) (lookup (eqb id) l)
  lookup-with id e [] apart = refl
  lookup-with id e (f ∷ l) apart = by_test (nat_lt e.0 f.0) (lookup-with id e l apart.1) where
    swapped : (s t : Bool) → eqb id f.0 ≡ s → eqb id e.0 ≡ t
        → cond s (Some f.1) (cond t (Some e.1) (lookup (eqb id) l)) ≡ cond t (Some e.1) (cond s (Some f.1) (lookup (eqb id) l))
    swapped true true is-f is-e = absurd (differ e.0 f.0 apart.0 (sym (eqb-true id e.0 is-e) ∙ eqb-true id f.0 is-f))
    swapped true false is-f is-e = refl
    swapped false t is-f is-e = refl

    by_test : (t : Bool) → lookup (eqb id) (with_entry e l) ≡ cond (eqb id e.0) (Some e.1) (lookup (eqb id) l)
        → lookup (eqb id) (cond t (e ∷ f ∷ l) (f ∷ with_entry e l)) ≡ cond (eqb id e.0) (Some e.1) (cond (eqb id f.0) (Some f.1) (lookup (eqb id) l))
    by_test true rest = refl
    by_test false rest = ap (λ o. cond (eqb id f.0) (Some f.1) o) rest ∙ swapped (eqb id f.0) (eqb id e.0) refl refl

  pub lookup-by_id : (id : ℕ) (es : List (ℕ × X)) → IsDistinct eqb (keys_of es) → lookup (eqb id) (by_id es) ≡ lookup (eqb id) es
  unfolding IsDistinct
  lookup-by_id id [] apart = refl
  lookup-by_id id (e ∷ es) apart =
      lookup-with id e (by_id es) (all-by_id (λ d. eqb e.0 d.0 ≡ false) es (all-keys e.0 es apart.0))
      ∙ ap (λ o. cond (eqb id e.0) (Some e.1) o) (lookup-by_id id es apart.1)

  -- entries in rising order in which the same is found are the same
  below-none : (id : ℕ) (l : List (ℕ × X)) → AllByRecursion (λ d. id < d.0) l → lookup (eqb id) l ≡ None
  below-none id [] all = refl
  below-none id (e ∷ l) all =
      let above : id < e.0 = all.0 in
      ap (λ t. cond t (Some e.1) (lookup (eqb id) l)) (ne_eqb id e.0 (λ same. omega (arith, above, same))) ∙ below-none id l all.1

  pub above-none : (id : ℕ) (l : List (ℕ × X)) → AllByRecursion (λ d. d.0 < id) l → lookup (eqb id) l ≡ None
  above-none id [] all = refl
  above-none id (e ∷ l) all =
      let below : e.0 < id = all.0 in
      ap (λ t. cond t (Some e.1) (lookup (eqb id) l)) (ne_eqb id e.0 (λ same. omega (arith, below, same))) ∙ above-none id l all.1

  first-found : (e : ℕ × X) (l : List (ℕ × X)) → lookup (eqb e.0) (e ∷ l) ≡ Some e.1
  first-found e l = ap (λ t. cond t (Some e.1) (lookup (eqb e.0) l)) (eq-eqb e.0 e.0 refl)

  below-first : (id : ℕ) (e : ℕ × X) (l : List (ℕ × X)) → id < e.0 → AllByRecursion (λ d. e.0 < d.0) l → lookup (eqb id) (e ∷ l) ≡ None
  below-first id e l below all =
      below-none id (e ∷ l) (below, all-weaken (λ d. e.0 < d.0) (λ d. id < d.0) (λ d above. omega (arith, below, above)) l all)

  same-rising : (l m : List (ℕ × X)) → AreRising l → AreRising m → ((id : ℕ) → lookup (eqb id) l ≡ lookup (eqb id) m) → l ≡ m
  same-rising [] [] rl rm same = refl
  same-rising [] (f ∷ m) rl rm same = absurd (none-some (same f.0 ∙ first-found f m))
  same-rising (e ∷ l) [] rl rm same = absurd (some-none (sym (first-found e l) ∙ same e.0))
  same-rising (e ∷ l) (f ∷ m) rl rm same =
      by_order (nat_lt e.0 f.0) (nat_lt f.0 e.0) refl refl (λ later. same-rising l m rl.1 rm.1 later) where
        later : e.0 ≡ f.0 → (id : ℕ) (t : Bool) → eqb id e.0 ≡ t → lookup (eqb id) l ≡ lookup (eqb id) m
        later key id true is =
            let here : e.0 ≡ id = sym (eqb-true id e.0 is) in
            subst (λ n. lookup (eqb n) l ≡ None) here (below-none e.0 l rl.0)
            ∙ sym (subst (λ n. lookup (eqb n) m ≡ None) (sym key ∙ here) (below-none f.0 m rm.0))
        later key id false is =
            sym (ap (λ t. cond t (Some e.1) (lookup (eqb id) l)) is) ∙ same id
            ∙ ap (λ t. cond t (Some f.1) (lookup (eqb id) m)) (sym (ap (eqb id) key) ∙ is)

        value : e.0 ≡ f.0 → e.1 ≡ f.1
        value key =
            some-same (sym (first-found e l) ∙ same e.0 ∙ ap (λ t. cond t (Some f.1) (lookup (eqb e.0) m)) (eq-eqb e.0 f.0 key))

        joined : e.0 ≡ f.0 → (((id : ℕ) → lookup (eqb id) l ≡ lookup (eqb id) m) → l ≡ m) → e ∷ l ≡ f ∷ m
        joined key rest =
            ap (λ k. (k, e.1) ∷ l) key ∙ ap (λ v. (f.0, v) ∷ l) (value key)
            ∙ ap (λ others. f ∷ others) (rest (λ id. later key id (eqb id e.0) refl))

        by_order : (s t : Bool) → nat_lt e.0 f.0 ≡ s → nat_lt f.0 e.0 ≡ t → (((id : ℕ) → lookup (eqb id) l ≡ lookup (eqb id) m) → l ≡ m) → e ∷ l ≡ f ∷ m
        by_order true t is-s is-t rest =
            absurd (some-none (sym (first-found e l) ∙ same e.0 ∙ below-first e.0 f m (ltb-true e.0 f.0 is-s) rm.0))
        by_order false true is-s is-t rest =
            absurd (none-some (sym (below-first f.0 e l (ltb-true f.0 e.0 is-t) rl.0) ∙ same f.0 ∙ first-found f m))
        by_order false false is-s is-t rest =
            let low : f.0 ≤ e.0 = ltb-false e.0 f.0 is-s in
            let high : e.0 ≤ f.0 = ltb-false f.0 e.0 is-t in
            joined (omega (arith, low, high)) rest

  -- one is removed
  all-removed : (P : ℕ × X → Type 0) (id : ℕ) (es : List (ℕ × X)) → AllByRecursion P es → AllByRecursion P (remove_entry (eqb id) es)
  all-removed P id [] all = tt
  all-removed P id (e ∷ es) all = by_test (eqb id e.0) (all-removed P id es all.1) where
    by_test : (t : Bool) → AllByRecursion P (remove_entry (eqb id) es) → AllByRecursion P (cond t es (e ∷ remove_entry (eqb id) es))
    by_test true rest = all.1
    by_test false rest = (all.0, rest)

  rising-removed : (id : ℕ) (es : List (ℕ × X)) → AreRising es → AreRising (remove_entry (eqb id) es)
  rising-removed id [] rising = tt
  rising-removed id (e ∷ es) rising = by_test (eqb id e.0) (rising-removed id es rising.1) where
    by_test : (t : Bool) → AreRising (remove_entry (eqb id) es) → AreRising (cond t es (e ∷ remove_entry (eqb id) es))
    by_test true rest = rising.1
    by_test false rest = (all-removed (λ d. e.0 < d.0) id es rising.0, rest)

  lookup-removed : (id q : ℕ) (es : List (ℕ × X)) → AreRising es → lookup (eqb q) (remove_entry (eqb id) es) ≡ cond (eqb id q) None (lookup (eqb q) es)
  lookup-removed id q [] rising = by_test (eqb id q) where
    by_test : (t : Bool) → ◌≡◌ {A = Option X} None (cond t None None)
    by_test true = refl
    by_test false = refl
  lookup-removed id q (e ∷ es) rising = by_tests (eqb id e.0) (eqb id q) refl refl (lookup-removed id q es rising.1) where
    by_tests : (s t : Bool) → eqb id e.0 ≡ s → eqb id q ≡ t → lookup (eqb q) (remove_entry (eqb id) es) ≡ cond (eqb id q) None (lookup (eqb q) es)
        → lookup (eqb q) (cond s es (e ∷ remove_entry (eqb id) es)) ≡ cond t None (cond (eqb q e.0) (Some e.1) (lookup (eqb q) es))
    by_tests true true is-s is-t rest =
        subst (λ n. lookup (eqb n) es ≡ None) (sym (eqb-true id e.0 is-s) ∙ eqb-true id q is-t) (below-none e.0 es rising.0)
    by_tests true false is-s is-t rest =
        ap (λ b. cond b (Some e.1) (lookup (eqb q) es))
        (sym (ne_eqb q e.0 (λ same. differ id q is-t (eqb-true id e.0 is-s ∙ sym same))))
    by_tests false true is-s is-t rest =
        ap (λ b. cond b (Some e.1) (lookup (eqb q) (remove_entry (eqb id) es)))
        (ne_eqb q e.0 (λ same. differ id e.0 is-s (eqb-true id q is-t ∙ same)))
        ∙ rest ∙ ap (λ b. cond b None (lookup (eqb q) es)) is-t
    by_tests false false is-s is-t rest =
        ap (λ o. cond (eqb q e.0) (Some e.1) o) (rest ∙ ap (λ b. cond b None (lookup (eqb q) es)) is-t)

  pub removed-by_id : (id : ℕ) (es new : List (ℕ × X)) → IsDistinct eqb (keys_of es) → IsDistinct eqb (keys_of new)
      → ((q : ℕ) → lookup (eqb q) new ≡ cond (eqb id q) None (lookup (eqb q) es)) → by_id new ≡ remove_entry (eqb id) (by_id es)
  removed-by_id id es new apart apart-new updates =
      let rising : AreRising (by_id es) = rising-by_id es apart in
      same-rising (by_id new) (remove_entry (eqb id) (by_id es)) (rising-by_id new apart-new) (rising-removed id (by_id es) rising)
      (λ q. lookup-by_id q new apart-new ∙ updates q ∙ ap (λ o. cond (eqb id q) None o) (sym (lookup-by_id q es apart))
      ∙ sym (lookup-removed id q (by_id es) rising))

  -- one is put behind the others
  with-end : (x e : ℕ × X) (l : List (ℕ × X)) → x.0 < e.0 → with_entry x (l ++ e ∷ []) ≡ with_entry x l ++ e ∷ []
  with-end x e [] below = ap (λ t. cond t (x ∷ e ∷ []) (e ∷ x ∷ [])) (lt-ltb x.0 e.0 below)
  with-end x e (f ∷ l) below = by_test (nat_lt x.0 f.0) (with-end x e l below) where
    by_test : (t : Bool) → with_entry x (l ++ e ∷ []) ≡ with_entry x l ++ e ∷ []
        → cond t (x ∷ f ∷ (l ++ e ∷ [])) (f ∷ with_entry x (l ++ e ∷ [])) ≡ cond t (x ∷ f ∷ l) (f ∷ with_entry x l) ++ e ∷ []
    by_test true rest = refl
    by_test false rest = ap (λ m. f ∷ m) rest

  pub joined-by_id : (es : List (ℕ × X)) (e : ℕ × X) → AllByRecursion (λ d. d.0 < e.0) es → by_id (es ++ e ∷ []) ≡ by_id es ++ e ∷ []
  joined-by_id [] e all = refl
  joined-by_id (x ∷ es) e all = ap (with_entry x) (joined-by_id es e all.1) ∙ with-end x e (by_id es) all.0

  -- entries are changed that keep their ids
  with-mapped : (g : ℕ × X → ℕ × X) → ((e : ℕ × X) → (g e).0 ≡ e.0) → (e : ℕ × X) (l : List (ℕ × X)) → with_entry (g e) (map g l) ≡ map g (with_entry e l)
  with-mapped g keys e [] = refl
  with-mapped g keys e (f ∷ l) =
      ap (λ t. cond t (g e ∷ g f ∷ map g l) (g f ∷ with_entry (g e) (map g l)))
      (ap (λ k. nat_lt k (g f).0) (keys e) ∙ ap (nat_lt e.0) (keys f))
      ∙ by_test (nat_lt e.0 f.0) (with-mapped g keys e l) where
        by_test : (t : Bool) → with_entry (g e) (map g l) ≡ map g (with_entry e l)
            → cond t (g e ∷ g f ∷ map g l) (g f ∷ with_entry (g e) (map g l)) ≡ map g (cond t (e ∷ f ∷ l) (f ∷ with_entry e l))
        by_test true rest = refl
        by_test false rest = ap (λ m. g f ∷ m) rest

  pub mapped-by_id : (g : ℕ × X → ℕ × X) → ((e : ℕ × X) → (g e).0 ≡ e.0) → (es : List (ℕ × X)) → by_id (map g es) ≡ map g (by_id es)
  mapped-by_id g keys [] = refl
  mapped-by_id g keys (e ∷ es) = ap (with_entry (g e)) (mapped-by_id g keys es) ∙ with-mapped g keys e (by_id es)

  -- what is found in place of the values
  pub lookup-mapped : {Y : Type 0} (g : X → Y) (id : ℕ) (es : List (ℕ × X)) → lookup (eqb id) (map (λ e. (e.0, g e.1)) es) ≡ option_map g (lookup (eqb id) es)
  lookup-mapped g id [] = refl
  lookup-mapped {Y} g id (e ∷ es) = by_test (eqb id e.0) (lookup-mapped g id es) where
    by_test : (t : Bool) → lookup (eqb id) (map (λ e. (e.0, g e.1)) es) ≡ option_map g (lookup (eqb id) es)
        → cond t (Some (g e.1)) (lookup (eqb id) (map (λ e. (e.0, g e.1)) es)) ≡ option_map g (cond t (Some e.1) (lookup (eqb id) es))
    by_test true rest = refl
    by_test false rest = rest
