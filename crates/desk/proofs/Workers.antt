-- The passes of a desk that was just opened come back to it.
use Rattle.std.proofs.Common.{◌≡◌, ◌≢◌, ℕ, zero, suc, ◌+◌, ◌<◌, ◌≤◌, All, List, [], ◌∷◌, length, refl, sym, ap, ◌∙◌, subst, arith}
use Rattle.std.specs.List.{AllByRecursion, Contains}
use Rattle.std.proofs.lemmas.List.Elements.{All-from_recursion, recursion_from_All}
use native.Mathlib.Decide.{dec_le, ℕ_discrete}
use Rattle.atomic_table.specs.Seated.{TableId}
use Rattle.desk.specs.Closing.{HasClosed, HasEveryWorker, workers_of}
use Rattle.desk.specs.Machines.{Health}
use Rattle.desk.specs.Passes.{HasJustOpened, Opening, Progress, fresh_passes}
use Rattle.desk.specs.Views.{workers_from}
use Rattle.desk.specs.Parts.{AreDone, HasTended, IsTended, TendsEach}

contains_later : (xs : List ℕ) (x w : ℕ) → Contains xs w → Contains (x ∷ xs) w
contains_later xs x w h = (suc h.0, (let less = h.1 in omega (arith, less)), h.2)

contains_first : (xs : List ℕ) (x w : ℕ) → x ≡ w → Contains (x ∷ xs) w
contains_first xs x w same = (0, omega arith, same)

less_from : (first w : ℕ) → first ≢ w → first ≤ w → first + 1 ≤ w
less_from first w other from = less_by (dec_le (first + 1) w)
  where
    less_by : Dec (first + 1 ≤ w) → first + 1 ≤ w
    less_by (yes less) = less
    less_by (no more) = absurd (other (omega (arith, from, more)))

-- of so many workers in a row each has its place
contains_workers : (first count w : ℕ) → first ≤ w → w < first + count → Contains (workers_from first count) w
contains_workers first zero w from below = absurd (omega (arith, from, below))
contains_workers first (suc n) w from below = by_case (ℕ_discrete first w) (λ later. contains_workers (first + 1) n w later (omega (arith, below)))
  where
    by_case : Dec (first ≡ w) → (first + 1 ≤ w → Contains (workers_from (first + 1) n) w) → Contains (workers_from first (suc n)) w
    by_case (yes same) rest = contains_first (workers_from (first + 1) n) first w same
    by_case (no other) rest = contains_later (workers_from (first + 1) n) first w (rest (less_from first w other from))

module _ (E Q R F : Type 0) (table : TableId) (start : List E) where
  fresh_workers : (first count : ℕ) → workers_of (fresh_passes {E = E} {Q = Q} {R = R} {F = F} table start (workers_from first count)) ≡ workers_from first count
  fresh_workers first zero = refl
  fresh_workers first (suc n) = ap (λ (l : List ℕ). first ∷ l) (fresh_workers (first + 1) n)

  fresh_long : (first count : ℕ) → length (fresh_passes {E = E} {Q = Q} {R = R} {F = F} table start (workers_from first count)) ≡ count
  fresh_long first zero = refl
  fresh_long first (suc n) = let e = fresh_long (first + 1) n in omega (arith, e)

module _ {E Q R F T : Type 0} (tends : T × Progress E Q R F → T × Progress E Q R F → Type 0) where
  same_workers : (tasks : List T) (passes : List (Progress E Q R F)) (tasks' : List T) (passes' : List (Progress E Q R F)) → TendsEach (IsTended tends) tasks passes tasks' passes'
      → workers_of passes' ≡ workers_of passes
  same_workers [] [] [] [] h = refl
  same_workers (task ∷ tasks) (pass ∷ passes) (task' ∷ tasks') (pass' ∷ passes') h =
      λ i. h.0.same.1 i ∷ same_workers tasks passes tasks' passes' h.1 i
  same_workers [] [] [] (pass' ∷ passes') h = absurd h
  same_workers [] [] (task' ∷ tasks') passes' h = absurd h
  same_workers [] (pass ∷ passes) tasks' passes' h = absurd h
  same_workers (task ∷ tasks) [] tasks' passes' h = absurd h
  same_workers (task ∷ tasks) (pass ∷ passes) [] passes' h = absurd h
  same_workers (task ∷ tasks) (pass ∷ passes) (task' ∷ tasks') [] h = absurd h

  same_tables : (table : TableId) (tasks : List T) (passes : List (Progress E Q R F)) (tasks' : List T) (passes' : List (Progress E Q R F))
      → TendsEach (IsTended tends) tasks passes tasks' passes' → AllByRecursion (λ (p : Progress E Q R F). p.table ≡ table) passes
      → AllByRecursion (λ (p : Progress E Q R F). p.table ≡ table) passes'
  same_tables table [] [] [] [] h all = tt
  same_tables table (task ∷ tasks) (pass ∷ passes) (task' ∷ tasks') (pass' ∷ passes') h all =
      (h.0.same.0 ∙ all.0, same_tables table tasks passes tasks' passes' h.1 all.1)
  same_tables table [] [] [] (pass' ∷ passes') h all = absurd h
  same_tables table [] [] (task' ∷ tasks') passes' h all = absurd h
  same_tables table [] (pass ∷ passes) tasks' passes' h all = absurd h
  same_tables table (task ∷ tasks) [] tasks' passes' h all = absurd h
  same_tables table (task ∷ tasks) (pass ∷ passes) [] passes' h all = absurd h
  same_tables table (task ∷ tasks) (pass ∷ passes) (task' ∷ tasks') [] h all = absurd h

  only_does : (tasks : List T) (passes : List (Progress E Q R F)) (tasks' : List T) (passes' : List (Progress E Q R F)) → TendsEach (IsTended tends) tasks passes tasks' passes'
      → TendsEach tends tasks passes tasks' passes'
  only_does [] [] [] [] h = tt
  only_does (task ∷ tasks) (pass ∷ passes) (task' ∷ tasks') (pass' ∷ passes') h = (h.0.does, only_does tasks passes tasks' passes' h.1)
  only_does [] [] [] (pass' ∷ passes') h = absurd h
  only_does [] [] (task' ∷ tasks') passes' h = absurd h
  only_does [] (pass ∷ passes) tasks' passes' h = absurd h
  only_does (task ∷ tasks) [] tasks' passes' h = absurd h
  only_does (task ∷ tasks) (pass ∷ passes) [] passes' h = absurd h
  only_does (task ∷ tasks) (pass ∷ passes) (task' ∷ tasks') [] h = absurd h

-- so many passes were dealt
pub dealt_long : {E Q R F M : Type 0} {events_of : M → List E} {start : M} {count : ℕ} {desk : Opening M} {passes : List (Progress E Q R F)}
    → HasJustOpened events_of start count desk passes → length passes ≡ count
dealt_long {E} {Q} {R} {F} {events_of = events_of} {start = start} {count = count} {desk = desk} opened =
    ap (λ (l : List (Progress E Q R F)). length l) opened.passes_are ∙ fresh_long E Q R F desk.table (events_of start) 0 count

module _ {E Q R F M T : Type 0} {events_of : M → List E} {desk : Opening M} {passes passes' : List (Progress E Q R F)} {tasks tasks' : List T}
    (tends : T × Progress E Q R F → T × Progress E Q R F → Type 0) (opened : HasJustOpened events_of desk.start desk.count desk passes)
    (done : AreDone (IsTended tends) tasks passes tasks' passes') where
  -- all passes are the desk's
  pub tables_stay : All (λ (pass : Progress E Q R F). pass.table ≡ desk.table) passes'
  tables_stay =
      All-from_recursion (λ (pass : Progress E Q R F). pass.table ≡ desk.table) passes'
      (same_tables tends desk.table tasks passes tasks' passes' done.each (recursion_from_All (λ (pass : Progress E Q R F). pass.table ≡ desk.table) passes opened.tables))

  -- and none is missing
  pub workers_stay : HasEveryWorker desk.count passes'
  workers_stay = λ worker less.
      subst (λ (l : List ℕ). Contains l worker)
      (sym (same_workers tends tasks passes tasks' passes' done.each ∙ ap (λ (l : List (Progress E Q R F)). workers_of l) opened.passes_are
      ∙ fresh_workers E Q R F desk.table (events_of desk.start) 0 desk.count))
      (contains_workers 0 desk.count worker (omega arith) (omega (arith, less)))

  pub has_tended : {answers : List E → ℕ → Q → List E → R → Type 0} {wants_memory : F → _} {health_of : M → Health} {machine : M} → length tasks ≡ desk.count
      → HasClosed answers wants_memory events_of health_of desk passes' machine
      → HasTended answers wants_memory events_of health_of tends desk tasks machine tasks'
  has_tended long closed = record {
    passes = passes';
    tended =
        subst (λ (l : List (Progress E Q R F)). TendsEach tends tasks l tasks' passes')
        (opened.passes_are ∙ ap (λ n. fresh_passes desk.table (events_of desk.start) (workers_from 0 n)) (sym long))
        (only_does tends tasks passes tasks' passes' done.each);
    closed = closed;
  }
