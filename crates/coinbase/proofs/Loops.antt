-- Reading so many of a kind, as a loop does.
use Rattle.std.proofs.Common.{◌≡◌, ℕ, suc, ◌-◌, ◌+◌, ◌≤◌, ◌<◌, List, [], ◌∷◌, ◌++◌, Result, Ok, Err, refl, sym, ap, ◌∙◌, arith, append_assoc}
use Rattle.std.proofs.lemmas.List.{append-nil}
use Rattle.coinbase.specs.declared.error.TxError.{TxError}
use Rattle.coinbase.specs.declared.error.TxError.TheVariants.{Short, LongSize, BadMarker, EmptyWitness, Trailing, Memory}
use Rattle.pool_base.specs.Results.{◌>>=◌}
use Rattle.coinbase.specs.Reading.{Place, many_at, FailsReading}

-- what was read before, and what is still read
abbrev pub with_front : {X : Type 0} → List X → Result (List X × Place) TxError → Result (List X × Place) TxError
with_front front read = read >>= λ x. Ok (front ++ x.0, x.1)

regroup : {X : Type 0} (front : List X) (x : X) (read : Result (List X × Place) TxError) →
    with_front front (read >>= λ y. Ok (x ∷ y.0, y.1)) ≡ with_front (front ++ x ∷ []) read
regroup {X} front x (Ok y) = ap (λ (xs : List X). Ok (xs, y.1)) (simp append_assoc)
regroup front x (Err e) = refl

alone : {X : Type 0} (read : Result (List X × Place) TxError) → with_front [] read ≡ read
alone (Ok y) = refl
alone (Err e) = refl

pub goes_on : {X : Type 0} (read : Place → Result (X × Place) TxError) (front new : List X) (count i : ℕ) (p after : Place) (x : X)
    (total : Result (List X × Place) TxError) → i < count → read p ≡ Ok (x, after) → new ≡ front ++ x ∷ [] →
    with_front front (many_at read (count - i) p) ≡ total → with_front new (many_at read (count - (i + 1)) after) ≡ total
unfolding many_at
goes_on read front new count i p after x total lt h more so_far =
    let k : count - i ≡ suc (count - (i + 1)) = omega arith in
    let one : with_front front (many_at read (count - i) p) ≡ with_front (front ++ x ∷ []) (many_at read (count - (i + 1)) after) =
    rw (k, h) (regroup front x (many_at read (count - (i + 1)) after)) in
    rw more (sym one ∙ so_far)

pub ends : {X : Type 0} (read : Place → Result (X × Place) TxError) (e : TxError) (front : List X) (count i : ℕ) (p : Place)
    (total : Result (List X × Place) TxError) → i < count → FailsReading e (read p) → with_front front (many_at read (count - i) p) ≡ total → FailsReading e total
unfolding many_at
ends read Memory front count i p total lt h so_far = tt
ends read (Short at) front count i p total lt h so_far = let k : count - i ≡ suc (count - (i + 1)) = omega arith in sym so_far ∙ rw (k, h) refl
ends read (LongSize at) front count i p total lt h so_far = let k : count - i ≡ suc (count - (i + 1)) = omega arith in sym so_far ∙ rw (k, h) refl
ends read BadMarker front count i p total lt h so_far = let k : count - i ≡ suc (count - (i + 1)) = omega arith in sym so_far ∙ rw (k, h) refl
ends read EmptyWitness front count i p total lt h so_far = let k : count - i ≡ suc (count - (i + 1)) = omega arith in sym so_far ∙ rw (k, h) refl
ends read (Trailing n) front count i p total lt h so_far = let k : count - i ≡ suc (count - (i + 1)) = omega arith in sym so_far ∙ rw (k, h) refl

pub begins : {X : Type 0} (read : Place → Result (X × Place) TxError) (front : List X) (count : ℕ) (p : Place) → front ≡ [] →
    with_front front (many_at read (count - 0) p) ≡ many_at read count p
begins read front count p empty =
    let all : count - 0 ≡ count = omega arith in
    rw (all, empty) (alone (many_at read count p))

pub is_done : {X : Type 0} (read : Place → Result (X × Place) TxError) (front : List X) (count i : ℕ) (p : Place) (total : Result (List X × Place) TxError) →
    count ≤ i → with_front front (many_at read (count - i) p) ≡ total → total ≡ Ok (front, p)
unfolding many_at
is_done {X} read front count i p total le so_far =
    let k : count - i ≡ 0 = omega arith in
    sym so_far ∙ rw k (ap (λ (xs : List X). Ok (xs, p)) (append-nil front))
