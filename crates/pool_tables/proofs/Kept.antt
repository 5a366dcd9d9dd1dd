-- One header more among those that are kept.
use Rattle.std.proofs.Common.{◌≡◌, ℕ, Bool, true, false, ◌||◌, cond, List, [], ◌∷◌, ◌++◌, refl, ap, sym, subst, ◌∙◌}
use Rattle.std.proofs.lemmas.List.Folds.{list_any-append}
use Rattle.std.proofs.lemmas.Slice.Eq.{bytes_eq-Decides}
use Rattle.std.specs.List.{list_any}
use Rattle.std.specs.Str.{bytes_eq}
use Rattle.history_laws.proofs.Holding.{bytes_eq-self}
use Rattle.pool_tables.specs.Headers.{HeaderSet, ShowsHeaders}

or-last : (a b : Bool) → (a || (b || false)) ≡ (b || a)
or-last true true = refl
or-last true false = refl
or-last false true = refl
or-last false false = refl

or-known : (a b : Bool) → (a ≡ true → b ≡ true) → b ≡ (a || b)
or-known true b known = known refl
or-known false b known = refl

same_bytes : (a b : List ℕ) → bytes_eq a b ≡ true → a ≡ b
same_bytes a b h = (bytes_eq-Decides a b).0 h

pub inserted : (keys : List (List ℕ)) (header x : List ℕ)
    → list_any (bytes_eq x) (cond (list_any (bytes_eq header) keys) keys (keys ++ header ∷ [])) ≡ (bytes_eq x header || list_any (bytes_eq x) keys)
inserted keys header x = by (list_any (bytes_eq header) keys) refl where
  by : (b : Bool) → list_any (bytes_eq header) keys ≡ b
      → list_any (bytes_eq x) (cond (list_any (bytes_eq header) keys) keys (keys ++ header ∷ [])) ≡ (bytes_eq x header || list_any (bytes_eq x) keys)
  by true known =
      ap (λ b. list_any (bytes_eq x) (cond b keys (keys ++ header ∷ []))) known
      ∙ or-known (bytes_eq x header) (list_any (bytes_eq x) keys)
      (λ same. ap (λ y. list_any (bytes_eq y) keys) (same_bytes x header same) ∙ known)
  by false new =
      ap (λ b. list_any (bytes_eq x) (cond b keys (keys ++ header ∷ []))) new
      ∙ list_any-append (bytes_eq x) keys (header ∷ []) ∙ or-last (list_any (bytes_eq x) keys) (bytes_eq x header)

pub shows-inserted : (old new : HeaderSet) (header : List ℕ) (seen : List (List ℕ)) → ShowsHeaders old seen
    → new.kept ≡ cond (list_any (bytes_eq header) old.kept) old.kept (old.kept ++ header ∷ []) → ShowsHeaders new (header ∷ seen)
shows-inserted old new header seen shows kept = record {
  among = λ x. ap (list_any (bytes_eq x)) kept ∙ inserted old.kept header x ∙ ap (λ b. bytes_eq x header || b) (shows.among x);
}
