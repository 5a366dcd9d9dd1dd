-- What contracts see of a pass and of a desk (this project's own).
use Rattle.std.specs.Prelude.{◌≡◌, ℕ, All, ◌+◌, ◌≤◌, Bool, false, List, [], ◌∷◌, ◌++◌, map, length, Result, Ok, Err}
use Rattle.std.specs.List.{AllByRecursion}
use Rattle.atomic_table.specs.Seated.{TableId}
use Rattle.atomic_table.specs.Table.{Me}
use Rattle.pool_base.specs.Lists.{Begins}
use Rattle.pool_base.specs.Calls.{Call, Faulted, IsOutcome, Outcome, Replied, RiseFrom}
use Rattle.desk.specs.Views.{View, longer, workers_from}

-- whose desk's pass it is, its worker, what it has seen, the number of calls that it knows of, and
-- its own calls
pub record Progress (E Q R F : Type 0) : Type 0 where
  pub table : TableId
  pub worker : ℕ
  pub seen : List E
  pub known : ℕ
  pub calls : List (Call E Q R F)

-- which desk it is, the machine that it was opened with, and how many passes it dealt
pub record Opening (M : Type 0) : Type 0 where
  pub table : TableId
  pub start : M
  pub count : ℕ

abbrev pub progress_of : {E Q R F : Type 0} → ℕ → TableId → View E Q R F → Progress E Q R F
progress_of worker table view = record {
  table = table;
  worker = worker;
  seen = view.seen;
  known = view.known;
  calls = view.calls;
}

-- the fronts of one caller's calls rise: none is below what the calls before it had reached
abbrev pub FrontsRise : {E Q R F : Type 0} → ℕ → List (Call E Q R F) → ℕ → Type 0
FrontsRise reached [] now = reached ≤ now
FrontsRise reached (call ∷ calls) now =
    (reached ≤ call.front) × FrontsRise (call.front + length call.added) calls now

-- they are this worker's own
abbrev pub AreOfWorker : {E Q R F : Type 0} → ℕ → List (Call E Q R F) → Type 0
AreOfWorker worker calls = AllByRecursion (λ call. call.worker ≡ worker) calls

-- between two calls a seat carries nothing, has no turn, and calls for this worker alone
pub record IsResting {E Q R F S : Type 0} (worker : ℕ) (me : Me S (View E Q R F)) : Type 0 where
  pub carried : me.1 ≡ []
  pub told : me.0.told ≡ []
  pub turn : me.0.has_turn ≡ false
  pub workers : me.0.workers ≡ worker ∷ []
  pub numbers : RiseFrom 0 me.0.calls me.0.known
  pub fronts : FrontsRise 0 me.0.calls (length me.0.seen)
  pub own : AreOfWorker worker me.0.calls

-- one call of a pass: it stood at a front that has all that the pass had seen, its number is one
-- that the pass didn't know yet, and the pass has then seen the events up to and with the call's
pub record MakesCall {E Q R F : Type 0} (answers : List E → ℕ → Q → List E → R → Type 0)
    (wants_memory : F → Bool)
    (before after : Progress E Q R F) (front : ℕ) (asked : Q) (outcome : Outcome R F) : Type 0 where
  pub call : Call E Q R F
  pub events : List E
  pub calls : after.calls ≡ before.calls ++ call ∷ []
  pub worker : call.worker ≡ before.worker
  pub asked_is : call.asked ≡ asked
  pub outcome_is : call.outcome ≡ outcome
  pub front_is : call.front ≡ front
  pub at_front : length events ≡ front
  pub seen_before : Begins before.seen events
  pub ends : IsOutcome answers wants_memory events call outcome
  pub seen : after.seen ≡ events ++ call.added
  pub number : before.known ≤ call.number
  pub known : after.known ≡ call.number + 1
  pub later : call.faults_before ≤ call.faults_after

-- it is still the same desk's pass, of the same worker
abbrev pub IsSamePass : {E Q R F : Type 0} → Progress E Q R F → Progress E Q R F → Type 0
IsSamePass before after = (after.table ≡ before.table) × (after.worker ≡ before.worker)

-- the call ended as was answered, at the front that was answered
abbrev pub IsAnswered :
    {E Q R F : Type 0} → (List E → ℕ → Q → List E → R → Type 0) → (F → Bool) → Progress E Q R F
    → Progress E Q R F → Q → Result (ℕ × R) (ℕ × F) → Type 0
IsAnswered answers wants_memory before after asked (Ok answered) =
    MakesCall answers wants_memory before after answered.0 asked (Replied answered.1)
IsAnswered answers wants_memory before after asked (Err failed) =
    MakesCall answers wants_memory before after failed.0 asked (Faulted failed.1)

-- how many events there were, as was answered
abbrev pub answered_front : {R F : Type 0} → Result (ℕ × R) (ℕ × F) → ℕ
answered_front (Ok answered) = answered.0
answered_front (Err failed) = failed.0

-- the numbers of a pass's calls rise, and their fronts with them
abbrev pub CallsRise : {E Q R F : Type 0} → Progress E Q R F → Type 0
CallsRise pass = RiseFrom 0 pass.calls pass.known × FrontsRise 0 pass.calls (length pass.seen)

-- a pass has seen the longer of what the two had seen, which begins with both, and knows of so many
-- calls
pub record HasMet {E Q R F : Type 0} (to from after : Progress E Q R F) (known : ℕ) : Type 0 where
  pub is : after ≡ record to { seen = longer to.seen from.seen; known = known }
  pub own : Begins to.seen after.seen
  pub other : Begins from.seen after.seen

-- a pass for each worker, of which none made a call
abbrev pub fresh_passes :
    {E Q R F : Type 0} → TableId → List E → List ℕ → List (Progress E Q R F)
fresh_passes table start =
    map (λ worker. record { table = table; worker = worker; seen = start; known = 0; calls = [] })

-- the desk has this machine and so many passes
pub record HasJustOpened {E Q R F M : Type 0} (events_of : M → List E) (machine : M) (count : ℕ)
    (desk : Opening M) (passes : List (Progress E Q R F)) : Type 0 where
  pub start : desk.start ≡ machine
  pub dealt : desk.count ≡ count
  pub passes_are : passes ≡ fresh_passes desk.table (events_of machine) (workers_from 0 count)
  pub tables : All (λ pass. pass.table ≡ desk.table) passes
