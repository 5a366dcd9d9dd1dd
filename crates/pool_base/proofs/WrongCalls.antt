-- What one might believe of calls and is false, each refuted by a few calls.
use Rattle.std.proofs.Common.{◌≡◌, ℕ, ◌+◌, Bool, false, List, [], ◌∷◌, ◌++◌, ◌^◌, ◌-◌, length, take, refl, ap, ◌∙◌, arith}
use Rattle.std.proofs.lemmas.List.{length-append}
use Rattle.std.proofs.lemmas.List.Sorted.{IsPermutation-refl, IsPermutation-swap}
use Rattle.pool_base.specs.Counts.{Rose}
use Rattle.pool_base.specs.Calls.{Call, IsOutcome, Outcome, Parted, PartsFrom, Replied, Faulted, RiseFrom}
use Rattle.pool_base.specs.Standing.{StandInOrder, StandsBehind}

-- two calls: the first adds 10, and the second 11
abbrev pub first : Call ℕ ℕ ℕ ℕ
first =
    record { worker = 0; number = 0; front = 1; faults_before = 0; faults_after = 0; asked = 0; outcome = Replied 0; added = 10 ∷ [] }

abbrev pub second : Call ℕ ℕ ℕ ℕ
second =
    record { worker = 1; number = 1; front = 2; faults_before = 1; faults_after = 1; asked = 0; outcome = Replied 0; added = 11 ∷ [] }

-- they part what they added behind the start
pub in_order : PartsFrom (9 ∷ []) 0 0 (9 ∷ 10 ∷ 11 ∷ []) 1 (first ∷ second ∷ [])
in_order = (refl, refl, omega arith, omega arith, (refl, refl, omega arith, omega arith, (refl, omega arith)))

pub both-part : Parted (9 ∷ []) (9 ∷ 10 ∷ 11 ∷ []) 0 1 (first ∷ second ∷ [])
both-part = record {
  ordered = first ∷ second ∷ [];
  same = IsPermutation-refl (first ∷ second ∷ []);
  parts = in_order;
}

-- but no events that begin with another start
pub no-other_start : PartsFrom (9 ∷ []) 0 0 (8 ∷ 10 ∷ 11 ∷ []) 1 (first ∷ second ∷ []) → ⊥
no-other_start p =
    let same : ◌≡◌ {A = List ℕ} (8 ∷ 10 ∷ 11 ∷ []) (9 ∷ 10 ∷ 11 ∷ []) = p.4.4.0 in
    let heads : ◌≡◌ {A = ℕ} 8 9 = cc in
    omega (arith, heads)

-- not with fewer faults at the end than were counted
pub no-fewer_faults : PartsFrom (9 ∷ []) 0 0 (9 ∷ 10 ∷ 11 ∷ []) 0 (first ∷ second ∷ []) → ⊥
no-fewer_faults p = omega (arith, p)

-- not one call twice
pub no-call_twice : PartsFrom (9 ∷ []) 0 0 (9 ∷ 10 ∷ 10 ∷ []) 1 (first ∷ first ∷ []) → ⊥
no-call_twice p = omega (arith, p)

-- one caller's numbers don't fall
pub no-falling : (now : ℕ) → RiseFrom 0 (second ∷ first ∷ []) now → ⊥
no-falling now r = omega (arith, r)

-- a fault that isn't a lack of memory, at a count that stays
pub no-uncounted_fault : IsOutcome (λ before worker asked added reply. Unit {0}) (λ fault. false) [] (record first { added = [] }) (Faulted 0) → ⊥
no-uncounted_fault h = omega (arith, h.1 refl)

-- calls that don't rise needn't stand in their order
abbrev pub AllStandInOrder : Type 0
AllStandInOrder =
    (start events : List ℕ) (least most : ℕ) (calls : List (Call ℕ ℕ ℕ ℕ)) → Parted start events least most calls → StandInOrder events calls

pub both-part_turned : Parted (9 ∷ []) (9 ∷ 10 ∷ 11 ∷ []) 0 1 (second ∷ first ∷ [])
both-part_turned = record {
  ordered = first ∷ second ∷ [];
  same = IsPermutation-swap (first ∷ second ∷ []) (second ∷ first ∷ []) 0 1 (omega arith) (omega arith) refl;
  parts = in_order;
}

no-behind : StandsBehind (9 ∷ 10 ∷ 11 ∷ []) second first → ⊥
no-behind h =
    let front : List ℕ = 9 ∷ [] in
    let back : List ℕ = 9 ∷ 10 ∷ 11 ∷ [] in
    let same : front ≡ back ++ h.between = h.behind in
    let fewer : length front ≡ length back + length h.between = ap length same ∙ length-append back h.between in
    omega (arith, fewer)

pub no-all_in_order : AllStandInOrder → ⊥
no-all_in_order law = no-behind (law (9 ∷ []) (9 ∷ 10 ∷ 11 ∷ []) 0 1 (second ∷ first ∷ []) both-part_turned).0.0

-- a count that stands at its last value meets that it rose, and no other that stands still does
pub rose-at_end : Rose (2 ^ 64 - 1) (2 ^ 64 - 1)
rose-at_end = omega arith

pub no-rise : Rose 5 5 → ⊥
no-rise rose = omega (arith, rose)
