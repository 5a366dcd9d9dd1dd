-- How counts that stand still at their end add up.
use Rattle.std.proofs.Common.{◌≡◌, ℕ, ◌+◌, ◌-◌, ◌^◌, List, [], ◌∷◌, ◌++◌, arith}
use Rattle.door_threads.specs.declared.working.DoorEnd.{DoorEnd}
use Rattle.door_threads.specs.Asking.{is_failed_end}
use Rattle.door_threads.specs.Counting.{capped, count_if, failed_in, is_starved_end, starved_in}

pub failed_more : (xs : List DoorEnd) (x : DoorEnd) → failed_in (xs ++ x ∷ []) ≡ failed_in xs + count_if (is_failed_end x)
failed_more [] x = omega arith
failed_more (y ∷ ys) x = let e = failed_more ys x in omega (arith, e)

pub starved_more : (xs : List DoorEnd) (x : DoorEnd) → starved_in (xs ++ x ∷ []) ≡ starved_in xs + count_if (is_starved_end x)
starved_more [] x = omega arith
starved_more (y ∷ ys) x = let e = starved_more ys x in omega (arith, e)

-- a capped sum of capped counts
pub capped_sum : (a b c : ℕ) → capped b ≡ capped c → capped (capped a + b) ≡ capped (a + c)
capped_sum a b c same = omega (arith, same)

pub capped_more : (count sum more : ℕ) → count ≡ capped sum → capped (count + more) ≡ capped (sum + more)
capped_more count sum more is = omega (arith, is)
