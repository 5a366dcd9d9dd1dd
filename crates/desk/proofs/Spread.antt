-- What all seats have together, when what one seat has changes.
use Rattle.std.proofs.Common.{◌≡◌, ◌≢◌, ℕ, zero, suc, List, [], ◌∷◌, ◌++◌, set, refl, sym, ap, ◌∙◌, subst, append_assoc}
use Rattle.std.proofs.lemmas.List.{append-nil}
use Rattle.std.proofs.lemmas.List.Sorted.{IsPermutation-refl, IsPermutation-sym, IsPermutation-trans, IsPermutation-append_left, IsPermutation-append_right, IsPermutation-append_comm}
use Rattle.std.specs.List.{flat_map}
use Rattle.std.specs.List.Sorted.{IsPermutation}
use mathlib.Core.Option.{some, some-injective, some-ne-none}
use lib.ListN.{get_elem?}
use Rattle.atomic_table.proofs.Lists.{set_else}

module _ {X : Type 0} where
  pub swapped : (a b rest : List X) → IsPermutation (a ++ (b ++ rest)) (b ++ (a ++ rest))
  swapped a b rest =
      subst (λ l. IsPermutation l (b ++ (a ++ rest))) (append_assoc a b rest)
      (subst (λ l. IsPermutation ((a ++ b) ++ rest) l) (append_assoc b a rest)
      (IsPermutation-append_left rest (a ++ b) (b ++ a) (IsPermutation-append_comm a b)))

  over : (a b rest whole : List X) → IsPermutation (b ++ rest) whole → IsPermutation (b ++ (a ++ rest)) (a ++ whole)
  over a b rest whole h =
      IsPermutation-trans (b ++ (a ++ rest)) (a ++ (b ++ rest)) (a ++ whole) (swapped b a rest)
      (IsPermutation-append_right a (b ++ rest) whole h)

module _ {V X : Type 0} (f : V → List X) where
  -- what the others have beside what one has, whatever that becomes
  pub record Beside (views : List V) (seat : ℕ) (view : V) : Type 0 where
    pub others : List X
    pub now : IsPermutation (f view ++ others) (flat_map f views)
    pub then : (after : V) → IsPermutation (f after ++ others) (flat_map f (set views seat after))

  pub beside : (views : List V) (seat : ℕ) (view : V) → get_elem? views seat ≡ some view → Beside views seat view
  beside [] seat view there = absurd (some-ne-none view (sym there))
  beside (x ∷ xs) zero view there = record {
    others = flat_map f xs;
    now = subst (λ (l : List X). IsPermutation (f view ++ flat_map f xs) (l ++ flat_map f xs)) (ap f (sym (some-injective x view there))) (IsPermutation-refl (f view ++ flat_map f xs));
    then = λ after. IsPermutation-refl (f after ++ flat_map f xs);
  }
  beside (x ∷ xs) (suc seat) view there =
      let h = beside xs seat view there in
      record {
        others = f x ++ h.others;
        now = over (f x) (f view) h.others (flat_map f xs) h.now;
        then = λ after. over (f x) (f after) h.others (flat_map f (set xs seat after)) (h.then after);
      }

  pub same_flat : (views : List V) (seat : ℕ) (view after : V) → get_elem? views seat ≡ some view → f after ≡ f view → flat_map f (set views seat after) ≡ flat_map f views
  same_flat [] seat view after there same = refl
  same_flat (x ∷ xs) zero view after there same = ap (λ (l : List X). l ++ flat_map f xs) (same ∙ ap f (sym (some-injective x view there)))
  same_flat (x ∷ xs) (suc seat) view after there same = ap (λ (l : List X). f x ++ l) (same_flat xs seat view after there same)

  pub flat_snoc : (views : List V) (last : V) → flat_map f (views ++ last ∷ []) ≡ flat_map f views ++ f last
  flat_snoc [] last = append-nil (f last)
  flat_snoc (x ∷ xs) last = ap (λ (l : List X). f x ++ l) (flat_snoc xs last) ∙ sym (append_assoc (f x) (flat_map f xs) (f last))

  -- one has one more
  pub one_more : (whole : List X) (x : X) (views : List V) (seat : ℕ) (view after : V) → get_elem? views seat ≡ some view → f after ≡ f view ++ x ∷ []
      → IsPermutation whole (flat_map f views) → IsPermutation (whole ++ x ∷ []) (flat_map f (set views seat after))
  one_more whole x views seat view after there more h =
      let b = beside views seat view there in
      let shown : IsPermutation ((f view ++ x ∷ []) ++ b.others) (flat_map f (set views seat after)) =
      subst (λ (l : List X). IsPermutation (l ++ b.others) (flat_map f (set views seat after))) more (b.then after) in
      let moved : IsPermutation ((f view ++ b.others) ++ x ∷ []) ((f view ++ x ∷ []) ++ b.others) =
      subst (λ (l : List X). IsPermutation ((f view ++ b.others) ++ x ∷ []) l) (sym (append_assoc (f view) (x ∷ []) b.others))
      (subst (λ (l : List X). IsPermutation l (f view ++ (x ∷ [] ++ b.others))) (sym (append_assoc (f view) b.others (x ∷ [])))
      (IsPermutation-append_right (f view) (b.others ++ x ∷ []) (x ∷ [] ++ b.others) (IsPermutation-append_comm b.others (x ∷ [])))) in
      let was : IsPermutation whole (f view ++ b.others) =
      IsPermutation-trans whole (flat_map f views) (f view ++ b.others) h (IsPermutation-sym (f view ++ b.others) (flat_map f views) b.now) in
      IsPermutation-trans (whole ++ x ∷ []) ((f view ++ b.others) ++ x ∷ []) (flat_map f (set views seat after))
      (IsPermutation-append_left (x ∷ []) whole (f view ++ b.others) was)
      (IsPermutation-trans ((f view ++ b.others) ++ x ∷ []) ((f view ++ x ∷ []) ++ b.others) (flat_map f (set views seat after)) moved shown)

  -- one gives a part to a new one
  pub one_split : (whole : List X) (views : List V) (seat : ℕ) (view left right : V) → get_elem? views seat ≡ some view → f view ≡ f right ++ f left
      → IsPermutation whole (flat_map f views) → IsPermutation whole (flat_map f (set views seat left ++ right ∷ []))
  one_split whole views seat view left right there parts h =
      let b = beside views seat view there in
      let old : IsPermutation whole (f view ++ b.others) =
      IsPermutation-trans whole (flat_map f views) (f view ++ b.others) h (IsPermutation-sym (f view ++ b.others) (flat_map f views) b.now) in
      let apart : IsPermutation whole (f right ++ (f left ++ b.others)) =
      subst (λ (l : List X). IsPermutation whole l) (ap (λ (l : List X). l ++ b.others) parts ∙ append_assoc (f right) (f left) b.others) old in
      let turned : IsPermutation whole ((f left ++ b.others) ++ f right) =
      IsPermutation-trans whole (f right ++ (f left ++ b.others)) ((f left ++ b.others) ++ f right) apart (IsPermutation-append_comm (f right) (f left ++ b.others)) in
      subst (λ (l : List X). IsPermutation whole l) (sym (flat_snoc (set views seat left) right))
      (IsPermutation-trans whole ((f left ++ b.others) ++ f right) (flat_map f (set views seat left) ++ f right) turned
      (IsPermutation-append_left (f right) (f left ++ b.others) (flat_map f (set views seat left)) (b.then left)))

  set_set : (views : List V) (i j : ℕ) (a b : V) → i ≢ j → set (set views i a) j b ≡ set (set views j b) i a
  set_set [] i j a b apart = refl
  set_set (x ∷ xs) zero zero a b apart = absurd (apart refl)
  set_set (x ∷ xs) zero (suc j) a b apart = refl
  set_set (x ∷ xs) (suc i) zero a b apart = refl
  set_set (x ∷ xs) (suc i) (suc j) a b apart = ap (λ (l : List V). x ∷ l) (set_set xs i j a b (λ e. apart (ap suc e)))

  -- one takes over what another has
  pub one_joined : (whole : List X) (views : List V) (seat other : ℕ) (view theirs both spent : V) → get_elem? views seat ≡ some view → get_elem? views other ≡ some theirs
      → other ≢ seat → f both ≡ f theirs ++ f view → f spent ≡ []
      → IsPermutation whole (flat_map f views) → IsPermutation whole (flat_map f (set (set views seat both) other spent))
  one_joined whole views seat other view theirs both spent there there' apart parts nothing h =
      let V' : List V = set views other spent in
      let b = beside views other theirs there' in
      let r : IsPermutation b.others (flat_map f V') = subst (λ (l : List X). IsPermutation (l ++ b.others) (flat_map f V')) nothing (b.then spent) in
      let c = beside V' seat view (set_else views other seat spent (λ e. apart (sym e)) ∙ there) in
      let first : IsPermutation whole (f theirs ++ b.others) =
      IsPermutation-trans whole (flat_map f views) (f theirs ++ b.others) h (IsPermutation-sym (f theirs ++ b.others) (flat_map f views) b.now) in
      let second : IsPermutation (f theirs ++ b.others) (f theirs ++ (f view ++ c.others)) =
      IsPermutation-append_right (f theirs) b.others (f view ++ c.others)
      (IsPermutation-trans b.others (flat_map f V') (f view ++ c.others) r (IsPermutation-sym (f view ++ c.others) (flat_map f V') c.now)) in
      let third : IsPermutation (f theirs ++ (f view ++ c.others)) (flat_map f (set V' seat both)) =
      subst (λ (l : List X). IsPermutation l (flat_map f (set V' seat both))) (ap (λ (l : List X). l ++ c.others) parts ∙ append_assoc (f theirs) (f view) c.others) (c.then both) in
      subst (λ (l : List V). IsPermutation whole (flat_map f l)) (sym (set_set views seat other both spent (λ e. apart (sym e))))
      (IsPermutation-trans whole (f theirs ++ b.others) (flat_map f (set V' seat both)) first
      (IsPermutation-trans (f theirs ++ b.others) (f theirs ++ (f view ++ c.others)) (flat_map f (set V' seat both)) second third))
