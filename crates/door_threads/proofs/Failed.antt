-- Failed doors that were counted come from a count that rose.
use Rattle.std.proofs.Common.{◌≡◌, ℕ, ◌+◌, ◌<◌, Bool, true, false, List, [], ◌∷◌, map, arith, inl, inr, suc, zero}
use Rattle.std.specs.Prelude.{◌==◌}
use Rattle.std.specs.List.{AllByRecursion}
use Rattle.pool_base.specs.Counts.{Rose}
use Rattle.pool_io.specs.Outside.{CountsFailure}
use Rattle.pool_network.specs.Seen.{DoorSeen}
use Rattle.door_threads.specs.declared.working.DoorEnd.{DoorEnd}
use Rattle.door_threads.specs.Asking.{is_failed_end}
use Rattle.door_threads.specs.Counting.{count_if, failed_in}
use Rattle.door_threads.specs.Failing.{SomeDoorFailed}

-- a count that isn't none
pub some_if : (n : ℕ) → (n == 0) ≡ false → 0 < n
some_if zero is = cc
some_if (suc n) is = omega arith

failed_or : {G : Type 0} (failed : Bool) (before now later : ℕ) → CountsFailure failed before now → (Rose before now → G) → (0 < later → G)
    → 0 < count_if failed + later → G
failed_or true before now later counts rises more some = rises (omega (arith, counts))
failed_or false before now later counts rises more some = more (omega (arith, some))

-- what was done at each of some doors: as it came, as it went, and why it was asked no more
module _ {S : Type 0} (before after : S → DoorSeen) (reason : S → DoorEnd) where
  abbrev Counts : S → Type 0
  Counts shift = CountsFailure (is_failed_end (reason shift)) (before shift).faults (after shift).faults

  pub some_failed : (shifts : List S) → AllByRecursion Counts shifts → 0 < failed_in (map reason shifts)
      → SomeDoorFailed (map before shifts) (map after shifts)
  some_failed [] counts some = absurd (omega (arith, some))
  some_failed (shift ∷ shifts) counts some =
      failed_or (is_failed_end (reason shift)) (before shift).faults (after shift).faults (failed_in (map reason shifts)) counts.0
      (λ rose. inl rose) (λ more. inr (some_failed shifts counts.1 more)) some
