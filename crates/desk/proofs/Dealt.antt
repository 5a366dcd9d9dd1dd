-- How passes are dealt.
use Rattle.std.proofs.Common.{◌≡◌, ℕ, zero, suc, ◌+◌, ◌-◌, ◌<◌, ◌≤◌, List, [], ◌∷◌, ◌++◌, map, take, drop, refl, sym, ap, ◌∙◌, subst, arith}
use Rattle.std.specs.List.{AllByRecursion}
use Rattle.std.proofs.lemmas.List.Elements.{All-from_recursion}
use Rattle.atomic_table.specs.Table.{Me}
use Rattle.atomic_table.specs.Seated.{TableId}
use Rattle.desk.specs.Views.{View, dealt_view, fresh_view, left_view, workers_from}
use Rattle.desk.specs.Passes.{HasJustOpened, IsResting, Opening, Progress, fresh_passes, progress_of}

first-worker : (first count : ℕ) → 0 < count → workers_from first count ≡ first ∷ workers_from (first + 1) (count - 1)
first-worker first zero some = absurd (omega arith)
first-worker first (suc n) some = let e : n ≡ suc n - 1 = omega arith in ap (λ (k : ℕ). first ∷ workers_from (first + 1) k) e

pub last-worker : (first count : ℕ) → workers_from first (count + 1) ≡ workers_from first count ++ (first + count) ∷ []
last-worker first zero = let e : first ≡ first + 0 = omega arith in ap (λ (k : ℕ). k ∷ []) e
last-worker first (suc n) =
    let e : first + 1 + n ≡ first + suc n = omega arith in
    ap (λ (k : ℕ). workers_from first k) (more n) ∙ ap (λ (l : List ℕ). first ∷ l) (last-worker (first + 1) n ∙ ap (λ (k : ℕ). workers_from (first + 1) n ++ k ∷ []) e)
  where
    more : (n : ℕ) → suc n + 1 ≡ suc (n + 1)
    more n = omega arith

module _ {E Q R F S : Type 0} where
  pub fresh-rests : (worker : ℕ) (start : List E) (me : Me S (View E Q R F)) → me ≡ (fresh_view start (worker ∷ []), []) → IsResting worker me
  fresh-rests worker start me is = subst (λ (m : Me S (View E Q R F)). IsResting worker m) (sym is) (record {
    carried = refl;
    told = refl;
    turn = refl;
    workers = refl;
    numbers = omega arith;
    fronts = omega arith;
    own = tt;
  })

  pub deals-next : (worker count : ℕ) (start : List E) (me next : Me S (View E Q R F)) → worker < count → me ≡ (fresh_view start (workers_from worker (count - worker)), [])
      → next ≡ (dealt_view me.0, []) → next ≡ (fresh_view start (worker ∷ []), [])
  deals-next worker count start me next less is dealt =
      dealt ∙ ap (λ (m : Me S (View E Q R F)). (dealt_view m.0, [])) is
      ∙ ap (λ (l : List ℕ). (fresh_view start (take 1 l), [])) (first-worker worker (count - worker) (omega arith))

  pub deals-rest : (worker count : ℕ) (start : List E) (me left : Me S (View E Q R F)) → worker < count → me ≡ (fresh_view start (workers_from worker (count - worker)), [])
      → left ≡ (left_view me.0, me.1) → left ≡ (fresh_view start (workers_from (worker + 1) (count - (worker + 1))), [])
  deals-rest worker count start me left less is dealt =
      let e : count - worker - 1 ≡ count - (worker + 1) = omega arith in
      dealt ∙ ap (λ (m : Me S (View E Q R F)). (left_view m.0, m.1)) is
      ∙ ap (λ (l : List ℕ). (fresh_view start (drop 1 l), [])) (first-worker worker (count - worker) (omega arith))
      ∙ ap (λ (k : ℕ). (fresh_view start (workers_from (worker + 1) k), [])) e

map-snoc : {X Y : Type 0} (f : X → Y) (xs : List X) (x : X) → map f (xs ++ x ∷ []) ≡ map f xs ++ f x ∷ []
map-snoc f [] x = refl
map-snoc f (y ∷ ys) x = ap (λ l. f y ∷ l) (map-snoc f ys x)

module _ {E Q R F : Type 0} where
  pub one-pass-more : (table now_table : TableId) (start : List E) (worker : ℕ) (view : View E Q R F) → now_table ≡ table → view ≡ fresh_view start (worker ∷ [])
      → fresh_passes {Q = Q} {R = R} {F = F} table start (workers_from 0 worker) ++ progress_of worker now_table view ∷ []
      ≡ fresh_passes table start (workers_from 0 (worker + 1))
  one-pass-more table now_table start worker view same is =
      let e : 0 + worker ≡ worker = omega arith in
      let f : ℕ → Progress E Q R F = λ w. record { table = table; worker = w; seen = start; known = 0; calls = [] } in
      ap (λ (t : TableId). fresh_passes {Q = Q} {R = R} {F = F} table start (workers_from 0 worker) ++ progress_of worker t view ∷ []) same
      ∙ ap (λ (v : View E Q R F). fresh_passes {Q = Q} {R = R} {F = F} table start (workers_from 0 worker) ++ progress_of worker table v ∷ []) is
      ∙ sym (map-snoc f (workers_from 0 worker) worker)
      ∙ ap (λ (k : ℕ). map f (workers_from 0 worker ++ k ∷ [])) (sym e)
      ∙ ap (λ (l : List ℕ). map f l) (sym (last-worker 0 worker))

  -- the last seat is left for the last worker
  pub last-pass : {S : Type 0} (worker count : ℕ) (start : List E) (me : Me S (View E Q R F)) → worker < count → count - 1 ≤ worker
      → me ≡ (fresh_view start (workers_from worker (count - worker)), []) → me ≡ (fresh_view start ((count - 1) ∷ []), [])
  last-pass worker count start me less last is =
      let e : count - worker ≡ 1 = omega arith in
      let k : worker ≡ count - 1 = omega arith in
      is ∙ ap (λ (n : ℕ). (fresh_view start (workers_from worker n), [])) e ∙ ap (λ (w : ℕ). (fresh_view start (w ∷ []), [])) k

-- all of them are the desk's
fresh-tables : (E Q R F : Type 0) (table : TableId) (start : List E) (workers : List ℕ)
    → AllByRecursion (λ (pass : Progress E Q R F). pass.table ≡ table) (fresh_passes {Q = Q} {R = R} {F = F} table start workers)
fresh-tables E Q R F table start [] = tt
fresh-tables E Q R F table start (worker ∷ workers) = (refl, fresh-tables E Q R F table start workers)

module _ {E Q R F M : Type 0} where
  pub just-opened : (events_of : M → List E) (machine : M) (count : ℕ) (desk : Opening M) (passes : List (Progress E Q R F)) → desk.start ≡ machine → desk.count ≡ count
      → passes ≡ fresh_passes desk.table (events_of machine) (workers_from 0 count) → HasJustOpened events_of machine count desk passes
  just-opened events_of machine count desk passes start dealt are = record {
    start = start;
    dealt = dealt;
    passes_are = are;
    tables = All-from_recursion (λ (pass : Progress E Q R F). pass.table ≡ desk.table) passes
        (subst (AllByRecursion (λ (pass : Progress E Q R F). pass.table ≡ desk.table)) (sym are) (fresh-tables E Q R F desk.table (events_of machine) (workers_from 0 count)));
  }
