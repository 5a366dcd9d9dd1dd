-- The calls of a machine: what each found and left, when it was good, and that calls together are
-- what became of the events that were there at the start (this project's own). A machine has a list
-- of events, counts its faults and answers by a relation of the events before, the caller, the
-- request, the events added and the reply; nothing here says which machine it is.
use Rattle.std.specs.Prelude.{◌≡◌, ℕ, ◌+◌, ◌≤◌, Bool, false, List, [], ◌∷◌, ◌++◌, length}
use Rattle.std.specs.List.{AllByRecursion}
use Rattle.std.specs.List.Sorted.{IsPermutation}
use Rattle.pool_base.specs.Counts.{Rose}

-- how a call ended: with a reply, or with a fault
pub data Outcome (R F : Type 0) : Type 0 where
  Replied : R → Outcome R F
  Faulted : F → Outcome R F

-- a call: its worker, its number, how many events were before it, the counts of faults round it,
-- its request, its outcome, and the events that it added
pub record Call (E Q R F : Type 0) : Type 0 where
  pub worker : ℕ
  pub number : ℕ
  pub front : ℕ
  pub faults_before : ℕ
  pub faults_after : ℕ
  pub asked : Q
  pub outcome : Outcome R F
  pub added : List E

-- a reply is one that the machine answers with; a fault adds nothing, and the count rose unless
-- memory ran out
abbrev pub IsOutcome :
    {E Q R F : Type 0} → (List E → ℕ → Q → List E → R → Type 0) → (F → Bool) → List E → Call E Q R F
    → Outcome R F → Type 0
IsOutcome answers wants_memory before call (Replied reply) =
    answers before call.worker call.asked call.added reply
IsOutcome answers wants_memory before call (Faulted fault) =
    (call.added ≡ []) × (wants_memory fault ≡ false → Rose call.faults_before call.faults_after)

-- a call is good: what it added stands at its front, and it ended as the machine does after the
-- events before it
pub record IsGoodCall {E Q R F : Type 0} (answers : List E → ℕ → Q → List E → R → Type 0)
    (wants_memory : F → Bool)
    (events : List E) (call : Call E Q R F) : Type 0 where
  pub before : List E
  pub after : List E
  pub stands : events ≡ before ++ call.added ++ after
  pub at_front : length before ≡ call.front
  pub outcome : IsOutcome answers wants_memory before call call.outcome

-- all calls are good
abbrev pub GoodCalls :
    {E Q R F : Type 0} → (List E → ℕ → Q → List E → R → Type 0) → (F → Bool) → List E
    → List (Call E Q R F) → Type 0
GoodCalls answers wants_memory events calls =
    AllByRecursion (IsGoodCall answers wants_memory events) calls

-- calls one after the other, from events that were reached, a number and a count of faults: each
-- has the next number, stands behind the events reached so far and adds its own to them, and no
-- count is below the one before it; the last reaches all events, with at most so many faults
abbrev pub PartsFrom :
    {E Q R F : Type 0} → List E → ℕ → ℕ → List E → ℕ → List (Call E Q R F) → Type 0
PartsFrom reached number least events most [] = (events ≡ reached) × (least ≤ most)
PartsFrom reached number least events most (call ∷ calls) =
    (call.front ≡ length reached) × (call.number ≡ number) × (least ≤ call.faults_before)
    × (call.faults_before ≤ call.faults_after)
    × PartsFrom (reached ++ call.added) (number + 1) call.faults_after events most calls

-- the calls, in the order of their numbers 0, 1 and so on, part the events from those that were
-- there at the start, and the counts of faults go from the least to the most
pub record Parted {E Q R F : Type 0} (start events : List E) (least most : ℕ)
    (calls : List (Call E Q R F)) : Type 0 where
  pub ordered : List (Call E Q R F)
  pub same : IsPermutation ordered calls
  pub parts : PartsFrom start 0 least events most ordered

-- the numbers of one caller's calls rise: none is below the number that the caller knew, which is
-- then one more than the call's
abbrev pub RiseFrom : {E Q R F : Type 0} → ℕ → List (Call E Q R F) → ℕ → Type 0
RiseFrom known [] now = known ≤ now
RiseFrom known (call ∷ calls) now = (known ≤ call.number) × RiseFrom (call.number + 1) calls now
