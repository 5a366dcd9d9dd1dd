-- What was counted comes from a count that rose.
use Rattle.std.proofs.Common.{ℕ, ◌+◌, ◌<◌, ◌≤◌, List, [], ◌∷◌, ◌++◌, map, refl, subst, arith}
use Rattle.std.specs.List.{AllByRecursion}
use Rattle.std.proofs.lemmas.List.Elements.{All-from_recursion, recursion_from_All}
use Rattle.std.proofs.lemmas.List.Sorted.{All-permutation}
use Rattle.pool_base.specs.Counts.{Rose}
use Rattle.pool_base.specs.Calls.{IsOutcome, Outcome, Replied, Faulted, PartsFrom}
use Rattle.pool_base.proofs.Behind.{all-map}
use Rattle.pool_io.specs.Outside.{CountsFailure}
use Rattle.pool_history.specs.declared.events.Event.{Event}
use Rattle.pool_history.specs.declared.refusals.BookError.{BookError}
use Rattle.pool_history.specs.declared.refusals.BookError.TheVariants as fault
use Rattle.pool_history.specs.declared.replies.Reply.{Reply}
use Rattle.pool_history.specs.Answering.{Answer}
use Rattle.pool_history.specs.Calls.{GoodPoolCalls, PoolCall, has_keeper_failed, wants_memory}
use Rattle.door_threads.specs.Asking.{is_failed_end}
use Rattle.pool_server.specs.Shifts.{Shift}
use Rattle.session_steps.specs.declared.ends.SessionEnd.{SessionEnd}
use Rattle.pool_server.specs.Counting.{count_if, faulted_in}
use Rattle.pool_server.specs.Parts.{Service}
use Rattle.pool_server.specs.Serving.{AreShifts, Hall, HasRun}
use Rattle.pool_server.specs.Tending.{all_calls}
use Rattle.door_threads.specs.Failing.{SomeDoorFailed}
use Rattle.door_threads.proofs.Failed.{some_failed}

parts_le : (reached : List Event) (number least : ℕ) (events : List Event) (most : ℕ) (calls : List PoolCall)
    → PartsFrom reached number least events most calls → least ≤ most
parts_le reached number least events most [] parts = parts.1
parts_le reached number least events most (call ∷ calls) parts =
    omega (arith, parts.2, parts.3, parts_le (reached ++ call.added) (number + 1) call.faults_after events most calls parts.4)

-- a count that rose round one of the calls rose round all
rises_within : (reached : List Event) (number least : ℕ) (events : List Event) (most : ℕ) (calls : List PoolCall)
    → PartsFrom reached number least events most calls
    → AllByRecursion (λ (call : PoolCall). Rose call.faults_before call.faults_after → Rose least most) calls
rises_within reached number least events most [] parts = tt
rises_within reached number least events most (call ∷ calls) parts =
    let later = parts_le (reached ++ call.added) (number + 1) call.faults_after events most calls parts.4 in (
      λ rose. omega (arith, rose, parts.2, later),
      all-map (λ (c : PoolCall). Rose c.faults_before c.faults_after → Rose call.faults_after most)
          (λ (c : PoolCall). Rose c.faults_before c.faults_after → Rose least most)
          (λ c rises rose. (let more = rises rose in omega (arith, more, parts.2, parts.3))) calls
          (rises_within (reached ++ call.added) (number + 1) call.faults_after events most calls parts.4),
    )

-- a call that ended by the keeper's fault has a count that rose, or a later one is such
faulted_or : {G : Type 0} (before : List Event) (call : PoolCall) (outcome : Outcome Reply BookError) (later : ℕ)
    → IsOutcome Answer wants_memory before call outcome → (Rose call.faults_before call.faults_after → G) → (0 < later → G)
    → 0 < count_if (has_keeper_failed outcome) + later → G
faulted_or before call (Replied answer) later ended rises more some = more (omega (arith, some))
faulted_or before call (Faulted fault.KeeperFault) later ended rises more some = rises (ended.1 refl)
faulted_or before call (Faulted fault.Memory) later ended rises more some = more (omega (arith, some))

some_faulted : (events : List Event) (least most : ℕ) (calls : List PoolCall) → GoodPoolCalls events calls
    → AllByRecursion (λ (call : PoolCall). Rose call.faults_before call.faults_after → Rose least most) calls → 0 < faulted_in calls
    → Rose least most
some_faulted events least most [] good rises some = absurd (omega (arith, some))
some_faulted events least most (call ∷ calls) good rises some =
    faulted_or good.0.before call call.outcome (faulted_in calls) good.0.outcome rises.0 (λ more. some_faulted events least most calls good.1 rises.1 more) some

-- the doors' counts are those of the shifts
all_counted : (service : Service) (worker : ℕ) (shifts : List Shift) → AreShifts service worker shifts
    → AllByRecursion (λ (s : Shift). CountsFailure (is_failed_end s.reason) s.before.faults s.after.faults) shifts
all_counted service worker [] are = tt
all_counted service worker (shift ∷ shifts) are = (are.0.asked.counts, all_counted service (worker + 1) shifts are.1)

-- what `serve` counted
module _ (service : Service) (old new : Hall) (reason : SessionEnd)
    (ledger_faults door_faults door_memory : ℕ) (ran : HasRun service old new reason ledger_faults door_faults door_memory) where
  pub keeper_failed : 0 < ledger_faults → Rose old.book.keeper.faults new.book.keeper.faults
  keeper_failed some =
      let P = λ (call : PoolCall). Rose call.faults_before call.faults_after → Rose old.book.keeper.faults new.book.keeper.faults in
      let calls = all_calls ran.course ran.shifts in
      let within = rises_within old.book.events 0 old.book.keeper.faults new.book.events new.book.keeper.faults ran.parted.ordered ran.parted.parts in
      let moved = recursion_from_All P calls (All-permutation P ran.parted.ordered calls ran.parted.same (All-from_recursion P ran.parted.ordered within)) in
      some_faulted new.book.events old.book.keeper.faults new.book.keeper.faults calls ran.good moved (omega (arith, ran.ledger_faults_are, some))

  pub doors_failed : 0 < door_faults → SomeDoorFailed old.doors new.doors
  doors_failed some =
      subst (λ olds. SomeDoorFailed olds new.doors) ran.doors_before
      (subst (λ news. SomeDoorFailed (map (λ (s : Shift). s.before) ran.shifts) news) ran.doors_after
      (some_failed (λ (s : Shift). s.before) (λ (s : Shift). s.after) (λ (s : Shift). s.reason) ran.shifts (all_counted service 1 ran.shifts ran.worked)
      (omega (arith, ran.door_faults_are, some))))
