-- What a crash leaves of calls one behind the other.
use Rattle.std.proofs.Common.{◌≡◌, ◌⊎◌, inl, inr, ℕ, ◌-◌, ◌≤◌, List, [], ◌∷◌, ◌++◌, length, take, drop, reverse, get_or, refl, sym, ◌∙◌, ap, subst, arith, append_assoc}
use Rattle.std.proofs.lemmas.List.{append-nil, reverse-append, take_all}
use Rattle.ledger_disk.specs.Memory.{LeavesCall}
use Rattle.ledger_disk.specs.Moments.{MayLeave, Moment}

-- one call more
pub left_behind : (moment : Moment) (older : List Moment) (before left : List ℕ) → MayLeave older before → LeavesCall moment before left → MayLeave (moment ∷ older) left
left_behind moment older before left may (inl is) = inl is
left_behind moment older before left may (inr broken) = inr (before, may, broken)

-- a list of moments is its first one and the rest
pub first_and_rest : (moments : List Moment) (none : Moment) → 1 ≤ length moments → moments ≡ get_or moments 0 none ∷ take (length moments - 1) (drop 1 moments)
first_and_rest [] none some = absurd (omega (arith, some))
first_and_rest (moment ∷ moments) none some = ap (λ (l : List Moment). moment ∷ l) (sym (take_all (length (moment ∷ moments) - 1) moments (omega arith)))

-- the first call, and then the rest
pub left_all : (moments : List Moment) (moment : Moment) (rest : List Moment) → moments ≡ moment ∷ rest → (older : List Moment) (before left after : List ℕ)
    → MayLeave older before → LeavesCall moment before left → ((more : List Moment) → MayLeave more left → MayLeave (reverse rest ++ more) after)
    → MayLeave (reverse moments ++ older) after
left_all moments moment rest is older before left after may leaves later =
    let whole : reverse rest ++ (moment ∷ older) ≡ reverse moments ++ older =
    sym (append_assoc (reverse rest) (moment ∷ []) older)
    ∙ ap (λ (l : List Moment). l ++ older) (sym (reverse-append (moment ∷ []) rest) ∙ ap reverse (sym is)) in
    subst (λ (l : List Moment). MayLeave l after) whole (later (moment ∷ older) (left_behind moment older before left may leaves))

-- all calls, of which the latest stands first
pub left_last : (earlier moments : List Moment) → moments ≡ earlier → (moment latest : Moment) → moment ≡ latest → (log : List Moment) → latest ∷ reverse earlier ≡ log
    → (before left : List ℕ) → MayLeave (reverse moments ++ []) before → LeavesCall moment before left → MayLeave log left
left_last earlier moments same moment latest one log is before left may leaves =
    let older : MayLeave (reverse earlier) before = subst (λ (l : List Moment). MayLeave l before) (append-nil (reverse moments) ∙ ap reverse same) may in
    subst (λ (l : List Moment). MayLeave l left) is
    (left_behind latest (reverse earlier) before left older (subst (λ (m : Moment). LeavesCall m before left) one leaves))
