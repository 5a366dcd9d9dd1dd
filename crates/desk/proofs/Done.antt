-- From parts that were made, tended and taken apart to what became of all tasks.
use Rattle.std.proofs.Common.{◌≡◌, ℕ, suc, ◌<◌, All, List, [], ◌∷◌, ◌++◌, take, drop, length, slice_index_or, refl, sym, ap, ◌∙◌, subst, arith}
use Rattle.std.proofs.lemmas.List.{length-append}
use Rattle.std.proofs.Math.Seq.{take-append_seam}
use Rattle.std.proofs.lemmas.List.Elements.{All-from_recursion, recursion_from_All}
use Rattle.std.specs.List.{AllByRecursion}
use Rattle.desk.specs.Parts.{AreDone, IsUnpaired, TendsByPlace, TendsEach, parts_of}

all_with : {X : Type 0} (P : X → Type 0) (xs : List X) (x : X) → AllByRecursion P xs → P x → AllByRecursion P (xs ++ x ∷ [])
all_with P [] x all this = (this, tt)
all_with P (y ∷ ys) x all this = (all.0, all_with P ys x all.1 this)

module _ {T P : Type 0} where
  parts_all : (H : P → Type 0) (tasks : List T) (passes : List P) → AllByRecursion H passes → AllByRecursion (λ (part : T × P). H part.1) (parts_of tasks passes)
  parts_all H [] passes all = tt
  parts_all H (task ∷ tasks) [] all = tt
  parts_all H (task ∷ tasks) (pass ∷ passes) all = all_with (λ (part : T × P). H part.1) (parts_of tasks passes) (task, pass) (parts_all H tasks passes all.1) all.0

  -- what holds of all passes holds of those of the parts
  pub paired_all : (H : P → Type 0) (tasks : List T) (passes : List P) (parts : List (T × P)) → parts ≡ parts_of tasks passes → All H passes → All (λ (part : T × P). H part.1) parts
  paired_all H tasks passes parts paired all =
      All-from_recursion (λ (part : T × P). H part.1) parts
      (subst (λ (l : List (T × P)). AllByRecursion (λ (part : T × P). H part.1) l) (sym paired) (parts_all H tasks passes (recursion_from_All H passes all)))

  pub parts_long : (tasks : List T) (passes : List P) → length passes ≡ length tasks → length (parts_of tasks passes) ≡ length tasks
  parts_long [] passes even = refl
  parts_long (task ∷ tasks) [] even = absurd (omega (arith, even))
  parts_long (task ∷ tasks) (pass ∷ passes) even =
      let e = parts_long tasks passes (omega (arith, even)) in
      let l = length-append (parts_of tasks passes) ((task, pass) ∷ []) in
      omega (arith, e, l)

-- so it is with each, where it stands
abbrev Each : {X : Type 0} → (X → X → Type 0) → List X → List X → Type 0
Each tends [] [] = Unit {0}
Each tends (old ∷ olds) (new ∷ news) = tends old new × Each tends olds news
Each tends _ _ = ⊥

module _ {X : Type 0} (tends : X → X → Type 0) where
  each_places : (olds news : List X) → length news ≡ length olds
      → ((place : ℕ) (part : X) → place < length olds → tends (slice_index_or olds place part) (slice_index_or news place part)) → Each tends olds news
  each_places [] [] long each = tt
  each_places [] (new ∷ news) long each = absurd (omega (arith, long))
  each_places (old ∷ olds) [] long each = absurd (omega (arith, long))
  each_places (old ∷ olds) (new ∷ news) long each =
      (each 0 old (omega arith), each_places olds news (omega (arith, long)) (λ place part less. each (suc place) part (omega (arith, less))))

  none_each : (xs : List X) (x : X) → Each tends [] (xs ++ x ∷ []) → ⊥
  none_each [] x h = h
  none_each (y ∷ ys) x h = h

  each_none : (xs : List X) (x : X) → Each tends (xs ++ x ∷ []) [] → ⊥
  each_none [] x h = h
  each_none (y ∷ ys) x h = h

  each_last : (xs ys : List X) (x y : X) → Each tends (xs ++ x ∷ []) (ys ++ y ∷ []) → tends x y × Each tends xs ys
  each_last [] [] x y h = (h.0, tt)
  each_last [] (z ∷ ys) x y h = absurd (none_each ys y h.1)
  each_last (w ∷ xs) [] x y h = absurd (each_none xs x h.1)
  each_last (w ∷ xs) (z ∷ ys) x y h = let rest = each_last xs ys x y h.1 in (rest.0, (h.0, rest.1))

module _ {T P : Type 0} (tends : T × P → T × P → Type 0) where
  -- parts that were tended are tasks that were done
  tends_each : (tasks : List T) (passes : List P) (tasks' : List T) (passes' : List P) → length passes ≡ length tasks → length tasks' ≡ length passes'
      → Each tends (parts_of tasks passes) (parts_of tasks' passes') → TendsEach tends tasks passes tasks' passes'
  tends_each [] [] [] [] even even' h = tt
  tends_each [] [] (task' ∷ tasks') (pass' ∷ passes') even even' h = absurd (none_each tends (parts_of tasks' passes') (task', pass') h)
  tends_each [] (pass ∷ passes) tasks' passes' even even' h = absurd (omega (arith, even))
  tends_each (task ∷ tasks) [] tasks' passes' even even' h = absurd (omega (arith, even))
  tends_each [] [] [] (pass' ∷ passes') even even' h = absurd (omega (arith, even'))
  tends_each [] [] (task' ∷ tasks') [] even even' h = absurd (omega (arith, even'))
  tends_each (task ∷ tasks) (pass ∷ passes) [] [] even even' h = absurd (each_none tends (parts_of tasks passes) (task, pass) h)
  tends_each (task ∷ tasks) (pass ∷ passes) [] (pass' ∷ passes') even even' h = absurd (omega (arith, even'))
  tends_each (task ∷ tasks) (pass ∷ passes) (task' ∷ tasks') [] even even' h = absurd (omega (arith, even'))
  tends_each (task ∷ tasks) (pass ∷ passes) (task' ∷ tasks') (pass' ∷ passes') even even' h =
      let last = each_last tends (parts_of tasks passes) (parts_of tasks' passes') (task, pass) (task', pass') h in
      (last.0, tends_each tasks passes tasks' passes' (omega (arith, even)) (omega (arith, even')) last.1)

-- what is written back where a whole list was lent
back_of : {X : Type 0} (len : ℕ) (slice items new : List X) → slice ≡ items → len ≡ length items → length new ≡ length slice → take len (new ++ drop (length new) items) ≡ new
back_of {X} len slice items new value long same =
    let e : len ≡ length new = long ∙ ap (λ (l : List X). length l) (sym value) ∙ sym same in
    ap (λ n. take n (new ++ drop (length new) items)) e ∙ take-append_seam new (drop (length new) items)

-- what was written of parts that were made of tasks and passes
pub done_written : {T P : Type 0} (tends : T × P → T × P → Type 0) {tasks tasks' : List T} {passes passes' : List P} {made slice new : List (T × P)} (len : ℕ)
    → made ≡ parts_of tasks passes → length passes ≡ length tasks → slice ≡ made → len ≡ length made → TendsByPlace tends slice new
    → IsUnpaired (take len (new ++ drop (length new) made)) tasks' passes' → AreDone tends tasks passes tasks' passes'
done_written {T} {P} tends {tasks = tasks} {tasks' = tasks'} {passes = passes} {passes' = passes'} {made = made} {slice = slice} {new = new} len paired even value long by_place unpaired =
    let written = back_of len slice made new value long by_place.long in
    let each = each_places tends slice new by_place.long by_place.each in
    let from = subst (λ (l : List (T × P)). Each tends l new) (value ∙ paired) each in
    record {
      each =
          tends_each tends tasks passes tasks' passes' even unpaired.even
          (subst (λ (l : List (T × P)). Each tends (parts_of tasks passes) l) (sym written ∙ unpaired.parts_are) from);
    }
