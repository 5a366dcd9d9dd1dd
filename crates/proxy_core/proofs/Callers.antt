-- A change at the place of a caller, and of all, element by element.
use Rattle.std.proofs.Common.{◌≡◌, ℕ, zero, suc, ◌+◌, ◌<◌, ◌≤◌, ◌==◌, Bool, true, false, Option, None, Some, Result, Ok, Err, IfOk, List, [], ◌∷◌, ◌++◌, length, get_or, map, take, drop, position, slice_set, inl, inr, refl, ap, sym, ◌∙◌, arith, add-one}
use Rattle.std.specs.List.{position_or_len}
use Rattle.std.specs.Option.{option_and_then}
use Rattle.std.proofs.lemmas.Bool.{cases_Bool, cases_lt, lt-ltb}
use Rattle.std.proofs.lemmas.List.Quantifiers.{position-Some}
use Rattle.proxy_rules.specs.Miners.{at_caller, miner_of, session_of}
use Rattle.proxy_rules.specs.State.{Miner, Session}

abbrev is_caller : ℕ → Miner → Bool
is_caller caller miner = miner.caller == caller

changed_at : (caller : ℕ) (change : Miner → Miner) (miners : List Miner) (i : ℕ) (d new : Miner) → i < length miners
    → is_caller caller (get_or miners i d) ≡ true → ((k : ℕ) → k < i → is_caller caller (get_or miners k d) ≡ false)
    → new ≡ change (get_or miners i d) → slice_set miners i new ≡ at_caller caller change miners
changed_at caller change [] i d new within here before is = absurd (omega arith)
changed_at caller change (miner ∷ miners) zero d new within here before is = rw here (ap (λ m. m ∷ miners) is)
changed_at caller change (miner ∷ miners) (suc i) d new within here before is =
    rw (before 0 (omega arith)) (ap (λ more. miner ∷ more)
    (changed_at caller change miners i d new (omega arith) here (λ k below. before (suc k) (omega arith)) is))

pub set_at : (caller : ℕ) (change : Miner → Miner) (miners shown : List Miner) (i : ℕ) (old new : Miner) → shown ≡ miners
    → Some i ≡ position (λ miner. miner.caller == caller) shown → old ≡ get_or miners i old → new ≡ change old
    → slice_set miners i new ≡ at_caller caller change miners
set_at caller change miners shown i old new same at is changed =
    let first = position-Some (is_caller caller) miners i old (sym (at ∙ ap (position (is_caller caller)) same)) in
    changed_at caller change miners i old new first.0 first.1 first.2 (changed ∙ ap change is)

pub ok_at : {X E : Type 0} (result : Result X E) (caller : ℕ) (change : Miner → Miner) (miners shown : List Miner) (i : ℕ) (old new : Miner)
    → shown ≡ miners → Some i ≡ position (λ miner. miner.caller == caller) shown → old ≡ get_or miners i old → IfOk result (λ done. new ≡ change old)
    → IfOk result (λ done. slice_set miners i new ≡ at_caller caller change miners)
ok_at (Ok done) caller change miners shown i old new same at is changed =
    set_at caller change miners shown i old new same at is changed
ok_at (Err error) caller change miners shown i old new same at is changed = tt

none_before : (caller : ℕ) (miners : List Miner) → position (is_caller caller) miners ≡ None → length miners ≤ position_or_len (is_caller caller) miners
none_before caller miners none = elim (cases_lt (position_or_len (is_caller caller) miners) (length miners)) [
  | inl there ↦
      let same : Some (position_or_len (is_caller caller) miners) ≡ None = rw (lt-ltb (position_or_len (is_caller caller) miners) (length miners) there) at none in
      absurd (cc)
  | inr past ↦ past
]

unchanged : (caller : ℕ) (change : Miner → Miner) (miners : List Miner) → length miners ≤ position_or_len (is_caller caller) miners
    → miners ≡ at_caller caller change miners
unchanged caller change [] none = refl
unchanged caller change (miner ∷ miners) none = elim (cases_Bool (is_caller caller miner)) [
  | inl here ↦
      let nought : position_or_len (is_caller caller) (miner ∷ miners) ≡ 0 = rw here refl in
      absurd (omega arith)
  | inr here ↦
      let more : position_or_len (is_caller caller) (miner ∷ miners) ≡ 1 + position_or_len (is_caller caller) miners = rw here refl in
      rw here (ap (λ rest. miner ∷ rest) (unchanged caller change miners (omega arith)))
]

pub none_at : (caller : ℕ) (change : Miner → Miner) (miners shown : List Miner) → shown ≡ miners
    → None ≡ position (λ miner. miner.caller == caller) shown → miners ≡ at_caller caller change miners
none_at caller change miners shown same none =
    unchanged caller change miners (none_before caller miners (sym (none ∙ ap (position (is_caller caller)) same)))

-- ---- who has a number

miner_at : (caller : ℕ) (miners : List Miner) (i : ℕ) (d : Miner) → i < length miners → is_caller caller (get_or miners i d) ≡ true
    → ((k : ℕ) → k < i → is_caller caller (get_or miners k d) ≡ false) → miner_of caller miners ≡ Some (get_or miners i d)
miner_at caller [] i d within here before = absurd (omega arith)
miner_at caller (miner ∷ miners) zero d within here before = rw here refl
miner_at caller (miner ∷ miners) (suc i) d within here before =
    rw (before 0 (omega arith)) (miner_at caller miners i d (omega arith) here (λ k below. before (suc k) (omega arith)))

pub found_at : (caller : ℕ) (miners shown : List Miner) (i : ℕ) (miner : Miner) → shown ≡ miners
    → Some i ≡ position (λ miner. miner.caller == caller) shown → miner ≡ get_or miners i miner → miner_of caller miners ≡ Some miner
found_at caller miners shown i miner same at is =
    let first = position-Some (is_caller caller) miners i miner (sym (at ∙ ap (position (is_caller caller)) same)) in
    miner_at caller miners i miner first.0 first.1 first.2 ∙ ap (λ m. Some m) (sym is)

none_of : (caller : ℕ) (miners : List Miner) → length miners ≤ position_or_len (is_caller caller) miners → miner_of caller miners ≡ None
none_of caller [] none = refl
none_of caller (miner ∷ miners) none = elim (cases_Bool (is_caller caller miner)) [
  | inl here ↦
      let nought : position_or_len (is_caller caller) (miner ∷ miners) ≡ 0 = rw here refl in
      absurd (omega arith)
  | inr here ↦
      let more : position_or_len (is_caller caller) (miner ∷ miners) ≡ 1 + position_or_len (is_caller caller) miners = rw here refl in
      rw here (none_of caller miners (omega arith))
]

pub not_found : (caller : ℕ) (miners shown : List Miner) → shown ≡ miners → None ≡ position (λ miner. miner.caller == caller) shown
    → miner_of caller miners ≡ None
not_found caller miners shown same none = none_of caller miners (none_before caller miners (sym (none ∙ ap (position (is_caller caller)) same)))

pub session_at : (caller : ℕ) (miners shown : List Miner) (i : ℕ) (miner : Miner) → shown ≡ miners
    → Some i ≡ position (λ miner. miner.caller == caller) shown → miner ≡ get_or miners i miner → session_of caller miners ≡ miner.session
session_at caller miners shown i miner same at is = ap (option_and_then (λ (m : Miner). m.session)) (found_at caller miners shown i miner same at is)

pub no_session : (caller : ℕ) (miners shown : List Miner) → shown ≡ miners → None ≡ position (λ miner. miner.caller == caller) shown
    → session_of caller miners ≡ None
no_session caller miners shown same none = ap (option_and_then (λ (m : Miner). m.session)) (not_found caller miners shown same none)

-- what is said of one session is said of the same one
pub ok_same : {X E A : Type 0} (result : Result X E) (value : X → A) (of : Option Session → A) (one other : Option Session) → one ≡ other
    → IfOk result (λ x. value x ≡ of one) → IfOk result (λ x. value x ≡ of other)
ok_same (Ok x) value of one other same is = is ∙ ap of same
ok_same (Err e) value of one other same is = tt

-- ---- all, one after the other

mapped_at : {A : Type 0} (f : A → A) (xs : List A) (i : ℕ) (d : A) → i < length xs
    → get_or (map f (take i xs) ++ drop i xs) i d ≡ get_or xs i d
mapped_at f [] i d within = absurd (omega arith)
mapped_at f (x ∷ xs) zero d within = refl
mapped_at f (x ∷ xs) (suc i) d within = mapped_at f xs i d (omega arith)

mapped_set : {A : Type 0} (f : A → A) (xs : List A) (i : ℕ) (d new : A) → i < length xs → new ≡ f (get_or xs i d)
    → slice_set (map f (take i xs) ++ drop i xs) i new ≡ map f (take (suc i) xs) ++ drop (suc i) xs
mapped_set f [] i d new within is = absurd (omega arith)
mapped_set f (x ∷ xs) zero d new within is = ap (λ y. y ∷ xs) is
mapped_set f (x ∷ xs) (suc i) d new within is = ap (λ more. f x ∷ more) (mapped_set f xs i d new (omega arith) is)

pub one_more : {A : Type 0} (f : A → A) (xs now : List A) (i : ℕ) (d new : A) → i < length xs → now ≡ map f (take i xs) ++ drop i xs
    → new ≡ f (get_or now i d) → slice_set now i new ≡ map f (take (i + 1) xs) ++ drop (i + 1) xs
one_more f xs now i d new within so_far changed =
    let at : get_or now i d ≡ get_or xs i d = ap (λ ys. get_or ys i d) so_far ∙ mapped_at f xs i d within in
    rw (so_far, add-one) (mapped_set f xs i d new within (changed ∙ ap f at))
