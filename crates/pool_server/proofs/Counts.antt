-- How counts that stand still at their end add up.
use Rattle.std.proofs.Common.{◌≡◌, ℕ, ◌+◌, ◌-◌, ◌^◌, ◌≤◌, Bool, true, false, List, [], ◌∷◌, ◌++◌, ap, ◌∙◌, arith}
use Rattle.std.specs.Prelude.{if◌then◌else◌}
use Rattle.pool_io.specs.Outside.{next_count}
use Rattle.pool_history.specs.Calls.{PoolCall, has_keeper_failed}
use Rattle.pool_server.specs.Calling.{faults_after, faults_through}
use Rattle.pool_server.specs.Counting.{capped, count_if, faulted_in}

count_one_more : (b : Bool) (n rest : ℕ) → n ≤ 2 ^ 64 - 1
    → ((if b then next_count n else n) ≤ 2 ^ 64 - 1) × (capped ((if b then next_count n else n) + rest) ≡ capped (n + (count_if b + rest)))
count_one_more true n rest fits = (omega (arith, fits), omega (arith, fits))
count_one_more false n rest fits = (fits, omega arith)

-- a count through calls is that of those which the keeper's fault answered
pub through_is : (n : ℕ) (calls : List PoolCall) → n ≤ 2 ^ 64 - 1 → faults_through n calls ≡ capped (n + faulted_in calls)
through_is n [] fits = omega (arith, fits)
through_is n (call ∷ calls) fits =
    let one = count_one_more (has_keeper_failed call.outcome) n (faulted_in calls) fits in
    through_is (faults_after n call.outcome) calls one.0 ∙ one.1

pub through_zero : (calls : List PoolCall) → faults_through 0 calls ≡ capped (faulted_in calls)
through_zero calls =
    let none : 0 + faulted_in calls ≡ faulted_in calls = omega arith in
    through_is 0 calls (omega arith) ∙ ap (λ n. capped n) none

pub faulted_both : (xs ys : List PoolCall) → faulted_in (xs ++ ys) ≡ faulted_in xs + faulted_in ys
faulted_both [] ys = omega arith
faulted_both (x ∷ xs) ys = let e = faulted_both xs ys in omega (arith, e)
