-- What is read of the jobs that are kept whole is read of the jobs.
use Rattle.std.proofs.Common.{◌≡◌, ℕ, suc, ◌-◌, Bool, true, false, cond, ◌==◌, ◌||◌, Option, None, Some, List, [], ◌∷◌, ◌++◌, length, map, drop, refl, ap, sym, ◌∙◌, arith}
use Rattle.std.proofs.lemmas.List.Folds.{list_any-append}
use Rattle.std.proofs.lemmas.List.{drop-map, length-map}
use Rattle.std.specs.List.{AllByRecursion, list_any}
use Rattle.std.specs.Option.{option_map}
use Rattle.std.specs.Prelude.{IfSome, find, slice_get}
use Rattle.history_laws.proofs.Holding.{all-find}
use Rattle.history_laws.specs.KeptJobs.{KeptJobs, is_number_of, state_by}
use Rattle.pool_history.specs.declared.events.JobState.TheVariants.{Future, Live, Stale, Unknown}
use Rattle.pool_history.specs.Jobs.{Job, future_in, has_number, has_template, job_numbered, last, last_of, made_live}
use Rattle.template_jobs.specs.HeldJobs.{HeldJob, as_job}
use Rattle.pool_history.specs.Refusing.{is_template_known}
use Rattle.template_jobs.specs.Lists.{of_template, turned_live}

pub any-map : {X Y : Type 0} (f : X → Y) (p : Y → Bool) (xs : List X) → list_any p (map f xs) ≡ list_any (λ x. p (f x)) xs
any-map f p [] = refl
any-map f p (x ∷ xs) = ap (λ b. p (f x) || b) (any-map f p xs)

find-either : {X Y : Type 0} (f : X → Y) (b : Bool) (x : X) (o : Option X) → cond b (Some (f x)) (option_map f o) ≡ option_map f (cond b (Some x) o)
find-either f true x o = refl
find-either f false x o = refl

pub find-map : {X Y : Type 0} (f : X → Y) (p : Y → Bool) (xs : List X) → find p (map f xs) ≡ option_map f (find (λ x. p (f x)) xs)
find-map f p [] = refl
find-map f p (x ∷ xs) = ap (λ o. cond (p (f x)) (Some (f x)) o) (find-map f p xs) ∙ find-either f (p (f x)) x (find (λ y. p (f y)) xs)

pub last_of-map : {X Y : Type 0} (f : X → Y) (xs : List X) → last_of (map f xs) ≡ option_map f (last_of xs)
last_of-map f [] = refl
last_of-map f (x ∷ []) = refl
last_of-map f (x ∷ (y ∷ xs)) = last_of-map f (y ∷ xs)

pub last-map : {X Y : Type 0} (f : X → Y) (most : ℕ) (xs : List X) → last most (map f xs) ≡ map f (last most xs)
last-map f most xs = ap (λ n. drop (n - most) (map f xs)) (length-map xs f) ∙ drop-map f (length xs - most) xs

pub number-map : (o : Option HeldJob) → option_map (λ job. job.number) (option_map as_job o) ≡ option_map (λ job. job.number) o
number-map None = refl
number-map (Some held) = refl

pub live-map : (at : ℕ) (o : Option HeldJob) → made_live at (option_map as_job o) ≡ map as_job (turned_live at o)
live-map at None = refl
live-map at (Some held) = refl

pub future_in-map : (jobs : List HeldJob) (id : ℕ) → future_in (map as_job jobs) id ≡ option_map as_job (of_template id jobs)
future_in-map jobs id = find-map as_job (λ (job : Job). has_template id job.source) jobs

-- the last is what stands at the end
pub last-read : {X : Type 0} (xs : List X) → last_of xs ≡ slice_get xs (length xs - 1)
last-read [] = refl
last-read (x ∷ []) = refl
last-read (x ∷ (y ∷ xs)) =
    last-read (y ∷ xs) ∙ ap (λ n. slice_get (y ∷ xs) n) (less (length xs)) ∙ ap (λ n. slice_get (x ∷ (y ∷ xs)) n) (more (length xs)) where
      less : (n : ℕ) → suc n - 1 ≡ n
      less n = omega arith

      more : (n : ℕ) → suc n ≡ suc (suc n) - 1
      more n = omega arith

pub numbered : (o : Option HeldJob) (held : HeldJob) → o ≡ Some held → Some held.number ≡ option_map (λ job. job.number) o
numbered o held is = ap (option_map (λ job. job.number)) (sym is)

-- the state of a number by what was looked up
pub state-is : (kept : KeptJobs) (number : ℕ) (future live counted : Bool)
    → future ≡ has_number number kept.future → live ≡ (has_number number kept.live || has_number number kept.custom)
    → counted ≡ is_number_of kept number → cond future Future (cond live Live (cond counted Stale Unknown)) ≡ state_by kept number
state-is kept number future live counted a b c =
    ap (λ f. cond f Future (cond live Live (cond counted Stale Unknown))) a
    ∙ ap (λ l. cond (has_number number kept.future) Future (cond l Live (cond counted Stale Unknown))) b
    ∙ ap (λ n. cond (has_number number kept.future) Future (cond (has_number number kept.live || has_number number kept.custom) Live (cond n Stale Unknown))) c

-- what is found in lists one behind the other
pub find-front : {X : Type 0} (p : X → Bool) (xs ys : List X) (x : X) → find p xs ≡ Some x → find p (xs ++ ys) ≡ Some x
find-front p [] ys x h = absurd cc
find-front p (y ∷ xs) ys x h = by (p y) (λ i. find-front p xs ys x i) h where
  by : (b : Bool) → (find p xs ≡ Some x → find p (xs ++ ys) ≡ Some x) → cond b (Some y) (find p xs) ≡ Some x → cond b (Some y) (find p (xs ++ ys)) ≡ Some x
  by true rest i = i
  by false rest i = rest i

pub find-past : {X : Type 0} (p : X → Bool) (xs ys : List X) → find p xs ≡ None → find p (xs ++ ys) ≡ find p ys
find-past p [] ys h = refl
find-past p (y ∷ xs) ys h = by (p y) (λ i. find-past p xs ys i) h where
  by : (b : Bool) → (find p xs ≡ None → find p (xs ++ ys) ≡ find p ys) → cond b (Some y) (find p xs) ≡ None → cond b (Some y) (find p (xs ++ ys)) ≡ find p ys
  by true rest i = absurd cc
  by false rest i = rest i

-- what is found has what all have
pub some-all : {X : Type 0} (P : X → Type 0) (p : X → Bool) (xs : List X) (o : Option X) → o ≡ find p xs → AllByRecursion P xs → IfSome o P
some-all P p xs None is all = tt
some-all P p xs (Some x) is all = all-find P p xs x all (sym is)

pub answer-found : (number : ℕ) (jobs : List HeldJob) (o : Option HeldJob) → o ≡ find (λ job. job.number == number) jobs
    → option_map as_job o ≡ job_numbered number (map as_job jobs)
answer-found number jobs o is = ap (option_map as_job) is ∙ sym (find-map as_job (λ (job : Job). job.number == number) jobs)

-- a template's job is among the one or the other
pub known-both : (id : ℕ) (jobs others : List HeldJob)
    → list_any (λ held. has_template id held.source) jobs || list_any (λ held. has_template id held.source) others
    ≡ is_template_known (map as_job (jobs ++ others)) id
known-both id jobs others =
    sym (any-map as_job (λ (job : Job). has_template id job.source) (jobs ++ others)
    ∙ list_any-append (λ (held : HeldJob). has_template id held.source) jobs others)
