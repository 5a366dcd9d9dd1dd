-- Tasks with their passes, and what became of all once they were done (this project's own).
use Rattle.std.specs.Prelude.{◌≡◌, ℕ, ◌<◌, Bool, List, [], ◌∷◌, ◌++◌, length, slice_index_or}
use Rattle.desk.specs.Closing.{HasClosed}
use Rattle.desk.specs.Machines.{Health}
use Rattle.desk.specs.Passes.{IsSamePass, Opening, Progress, fresh_passes}
use Rattle.desk.specs.Views.{workers_from}

-- the tasks with their passes, the last one first
abbrev pub parts_of : {T P : Type 0} → List T → List P → List (T × P)
parts_of [] passes = []
parts_of (task ∷ tasks) [] = []
parts_of (task ∷ tasks) (pass ∷ passes) = parts_of tasks passes ++ (task, pass) ∷ []

-- parts were taken apart into so many tasks and passes
pub record IsUnpaired {T P : Type 0} (parts : List (T × P)) (tasks : List T) (passes : List P) :
    Type 0 where
  pub even : length tasks ≡ length passes
  pub parts_are : parts ≡ parts_of tasks passes

-- a part's task was done, by calls of its pass
pub record IsTended {E Q R F T : Type 0}
    (tends : T × Progress E Q R F → T × Progress E Q R F → Type 0)
    (old new : T × Progress E Q R F) : Type 0 where
  pub does : tends old new
  pub same : IsSamePass old.1 new.1

-- so were all parts, each where it stands
pub record TendsByPlace {X : Type 0} (tends : X → X → Type 0) (olds news : List X) : Type 0 where
  pub long : length news ≡ length olds
  pub each : (place : ℕ) (part : X) → place < length olds
      → tends (slice_index_or olds place part) (slice_index_or news place part)

-- each task was done by its pass
abbrev pub TendsEach :
    {T P : Type 0} → (T × P → T × P → Type 0) → List T → List P → List T → List P → Type 0
TendsEach tends [] [] [] [] = Unit {0}
TendsEach tends (task ∷ tasks) (pass ∷ passes) (task' ∷ tasks') (pass' ∷ passes') =
    tends (task, pass) (task', pass') × TendsEach tends tasks passes tasks' passes'
TendsEach tends _ _ _ _ = ⊥

-- the same of tasks that came, and of whatever came back
pub record AreDone {T P : Type 0} (tends : T × P → T × P → Type 0) (tasks : List T) (passes : List P)
    (tasks' : List T) (passes' : List P) : Type 0 where
  pub each : TendsEach tends tasks passes tasks' passes'

-- What is left when tasks were done at a desk: each was done by the calls of a pass of its own, whose
-- worker is its place, and the calls of all passes part what became of the machine that was there.
pub record HasTended {E Q R F M T : Type 0} (answers : List E → ℕ → Q → List E → R → Type 0)
    (wants_memory : F → Bool) (events_of : M → List E) (health_of : M → Health)
    (tends : T × Progress E Q R F → T × Progress E Q R F → Type 0) (desk : Opening M)
    (tasks : List T) (machine : M) (tasks' : List T) : Type 0 where
  pub passes : List (Progress E Q R F)
  pub tended : TendsEach tends tasks
      (fresh_passes desk.table (events_of desk.start) (workers_from 0 (length tasks))) tasks' passes
  pub closed : HasClosed answers wants_memory events_of health_of desk passes machine
