-- A count that goes through calls, and rises just where the keeper failed.
use Rattle.std.proofs.Common.{◌≡◌, ℕ, ◌≤◌, ◌||◌, Bool, true, false, List, [], ◌∷◌, refl, arith}
use Rattle.pool_base.specs.Counts.{Rose}
use Rattle.pool_io.specs.Outside.{CountsFailure}
use Rattle.pool_history.specs.Calls.{PoolCall, has_keeper_failed}
use Rattle.v2_sessions.specs.Ends.{has_unkept}

abbrev pub CountsThrough : ℕ → List PoolCall → ℕ → Type 0
CountsThrough before [] now = now ≡ before
CountsThrough before (call ∷ calls) now =
    (middle : ℕ) × CountsFailure (has_keeper_failed call.outcome) before middle × CountsThrough middle calls now

-- no count falls, and a failure raises it
counts_le : (failed : Bool) (before now : ℕ) → CountsFailure failed before now → before ≤ now
counts_le true before now counts = omega (arith, counts)
counts_le false before now counts = omega (arith, counts)

pub rose_by : (failed : Bool) (before now : ℕ) → failed ≡ true → CountsFailure failed before now → Rose before now
rose_by true before now is counts = omega (arith, counts)
rose_by false before now is counts = cc

through_le : (before now : ℕ) (calls : List PoolCall) → CountsThrough before calls now → before ≤ now
through_le before now [] counts = omega (arith, counts)
through_le before now (call ∷ calls) counts =
    omega (arith, counts_le (has_keeper_failed call.outcome) before counts.0 counts.1, through_le counts.0 now calls counts.2)

rose_more : (before middle now : ℕ) → Rose before middle → middle ≤ now → Rose before now
rose_more before middle now rose more = omega (arith, rose, more)

less_rose : (before middle now : ℕ) → before ≤ middle → Rose middle now → Rose before now
less_rose before middle now less rose = omega (arith, rose, less)

-- a call that the keeper failed raised its count
unkept_or : (b : Bool) (before after now : ℕ) (calls : List PoolCall) → CountsFailure b before after → CountsThrough after calls now → (b || has_unkept calls) ≡ true
    → ((n : ℕ) → CountsThrough n calls now → has_unkept calls ≡ true → Rose n now) → Rose before now
unkept_or true before after now calls one counts some more =
    rose_more before after now (rose_by true before after refl one) (through_le after now calls counts)
unkept_or false before after now calls one counts some more =
    less_rose before after now (counts_le false before after one) (more after counts some)

pub unkept_rose : (before now : ℕ) (calls : List PoolCall) → CountsThrough before calls now → has_unkept calls ≡ true → Rose before now
unkept_rose before now [] counts some = cc
unkept_rose before now (call ∷ calls) counts some =
    unkept_or (has_keeper_failed call.outcome) before counts.0 now calls counts.1 counts.2 some (λ n later has. unkept_rose n now calls later has)
