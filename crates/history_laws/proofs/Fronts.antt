-- Leads that no extranonce begins with together.
use Rattle.std.proofs.Common.{◌≡◌, ℕ, ◌+◌, ◌-◌, ◌≤◌, Bool, true, false, ◌&&◌, not, List, [], ◌∷◌, ◌++◌, length, take, drop, refl, ap, sym, ◌∙◌, arith, append_assoc, length-append}
use Rattle.std.proofs.Math.Dec.{eqb}
use Rattle.std.proofs.lemmas.Bool.{eq-eqb, false≢true}
use Rattle.std.proofs.lemmas.List.{length-replicate, take-append-drop}
use Rattle.std.proofs.lemmas.Slice.Eq.{bytes_eq-Decides}
use Rattle.std.specs.Prelude.{IsTrue, nat_eq, replicate}
use Rattle.std.specs.List.{starts_with}
use Rattle.history_laws.specs.Apart.{ShareNone}

-- of two fronts of one string the shorter begins the longer
pub front-begins : (a b r s : List ℕ) → length a ≤ length b → a ++ r ≡ b ++ s → starts_with nat_eq b a ≡ true
front-begins [] b r s few same = refl
front-begins (x ∷ a) [] r s few same = absurd (omega arith)
front-begins (x ∷ a) (y ∷ b) r s few same =
    let heads : x ≡ y = cc in
    let tails : a ++ r ≡ b ++ s = cc in
    let fewer : length a ≤ length b = omega (arith, few) in
    ap (λ e. e && starts_with nat_eq b a) (eq-eqb x y heads) ∙ front-begins a b r s fewer tails

-- what begins a list, with the rest
pub begins-rest : (a b : List ℕ) → starts_with nat_eq b a ≡ true → a ++ drop (length a) b ≡ b
begins-rest a b h =
    ap (λ front. front ++ drop (length a) b) ((bytes_eq-Decides a (take (length a) b)).0 h) ∙ take-append-drop (length a) b

-- a string of twelve bytes behind a lead
pub twelve : (b : List ℕ) → length b ≤ 12 → length (b ++ replicate (12 - length b) 0) ≡ 12
twelve b few =
    let zeros : List ℕ = replicate (12 - length b) 0 in
    let whole : length (b ++ zeros) ≡ length b + length zeros = length-append b zeros in
    let rest : length zeros ≡ 12 - length b = length-replicate {A = ℕ} (12 - length b) 0 in
    whole ∙ ap (λ n. length b + n) rest ∙ add_sub few where
      add_sub : {n : ℕ} → n ≤ 12 → n + (12 - n) ≡ 12
      add_sub h = omega arith

pub apart-decided : (a b : List ℕ) (r : Bool) → length a ≤ length b → length b ≤ 12 → r ≡ starts_with nat_eq b a
    → (IsTrue (not r) → ShareNone a b) × (ShareNone a b → IsTrue (not r))
apart-decided a b true few long is = (
  λ h. absurd (false≢true h),
  λ none. absurd (none (b ++ replicate (12 - length b) 0) (twelve b long) (
    drop (length a) b ++ replicate (12 - length b) 0,
    sym (append_assoc a (drop (length a) b) (replicate (12 - length b) 0)) ∙ ap (λ front. front ++ replicate (12 - length b) 0) (begins-rest a b (sym is)),
  )
      (replicate (12 - length b) 0, refl)),
)
apart-decided a b false few long is = (
  λ h x whole p q. false≢true (is ∙ front-begins a b p.0 q.0 few (p.1 ∙ sym q.1)),
  λ none. refl,
)

pub share-none-comm : (a b : List ℕ) → ShareNone a b → ShareNone b a
share-none-comm a b none x whole p q = none x whole q p
