-- What a desk gives when it closes, and when it doesn't close (this project's own).
use Rattle.std.specs.Prelude.{◌≡◌, ℕ, ◌<◌, ◌≤◌, Bool, false, List, [], map}
use Rattle.std.specs.List.{AllByRecursion, Contains, flat_map}
use Rattle.atomic_table.specs.Table.{Me}
use Rattle.pool_base.specs.Lists.{Begins}
use Rattle.pool_base.specs.Calls.{Call, GoodCalls, Parted}
use Rattle.desk.specs.Machines.{Health, IsLaterHealth}
use Rattle.desk.specs.Views.{View}
use Rattle.desk.specs.Passes.{AreOfWorker, CallsRise, Opening, Progress}

abbrev pub workers_of : {E Q R F : Type 0} → List (Progress E Q R F) → List ℕ
workers_of passes = map (λ pass. pass.worker) passes

-- the calls of all passes
abbrev pub calls_of : {E Q R F : Type 0} → List (Progress E Q R F) → List (Call E Q R F)
calls_of passes = flat_map (λ pass. pass.calls) passes

-- no pass is missing
abbrev pub HasEveryWorker : {E Q R F : Type 0} → ℕ → List (Progress E Q R F) → Type 0
HasEveryWorker count passes =
    (worker : ℕ) → worker < count → Contains (workers_of passes) worker

-- the place's pass is missing, and none before it
pub record IsLeastMissing {E Q R F : Type 0} (count : ℕ) (passes : List (Progress E Q R F))
    (place : ℕ) : Type 0 where
  pub below : place < count
  pub missing : ¬ Contains (workers_of passes) place
  pub least : (worker : ℕ) → worker < place → Contains (workers_of passes) worker

-- all comes back as it was, with the least place whose pass is missing
pub record IsRefused {E Q R F M : Type 0} (desk : Opening M) (passes : List (Progress E Q R F))
    (desk_back : Opening M) (passes_back : List (Progress E Q R F)) (place : ℕ) : Type 0 where
  pub same_desk : desk_back ≡ desk
  pub same_passes : passes_back ≡ passes
  pub place_is : IsLeastMissing desk.count passes place

-- the machine's events begin with those of the machine that the desk was opened with, and with what
-- each pass has seen, and it tells what that one told; the calls of all passes are good, and part the
-- events
pub record HasClosed {E Q R F M : Type 0} (answers : List E → ℕ → Q → List E → R → Type 0)
    (wants_memory : F → Bool) (events_of : M → List E) (health_of : M → Health)
    (desk : Opening M) (passes : List (Progress E Q R F)) (machine : M) : Type 0 where
  pub complete : HasEveryWorker desk.count passes
  pub begins : Begins (events_of desk.start) (events_of machine)
  pub seen : AllByRecursion (λ pass. Begins pass.seen (events_of machine)) passes
  -- the calls of each pass rise, and are those of its worker
  pub rise : AllByRecursion CallsRise passes
  pub own : AllByRecursion (λ pass. AreOfWorker pass.worker pass.calls) passes
  pub good : GoodCalls answers wants_memory (events_of machine) (calls_of passes)
  pub parted : Parted (events_of desk.start) (events_of machine) (health_of desk.start).faults
      (health_of machine).faults (calls_of passes)
  pub later : IsLaterHealth (health_of desk.start) (health_of machine)

-- a seat that took over what these passes had
pub record IsJoined {E Q R F S : Type 0} (passes : List (Progress E Q R F))
    (me : Me S (View E Q R F)) : Type 0 where
  pub carried : me.1 ≡ []
  pub turn : me.0.has_turn ≡ false
  pub calls : me.0.calls ≡ calls_of passes
  pub workers : me.0.workers ≡ workers_of passes
  pub seen : AllByRecursion (λ pass. Begins pass.seen me.0.seen) passes
  pub rise : AllByRecursion CallsRise passes
  pub own : AllByRecursion (λ pass. AreOfWorker pass.worker pass.calls) passes

-- the machine is what the calls of one seat made of the one at the start
pub record IsOfSeat {E Q R F M : Type 0} (answers : List E → ℕ → Q → List E → R → Type 0)
    (wants_memory : F → Bool) (events_of : M → List E) (health_of : M → Health)
    (start : M) (view : View E Q R F) (machine : M) : Type 0 where
  pub seen : Begins view.seen (events_of machine)
  pub good : GoodCalls answers wants_memory (events_of machine) view.calls
  pub parted : Parted (events_of start) (events_of machine) (health_of start).faults
      (health_of machine).faults view.calls
  pub tells : (health_of machine).tells ≡ (health_of start).tells
