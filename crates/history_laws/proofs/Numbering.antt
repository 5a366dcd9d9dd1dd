-- The numbers of jobs rise in each list, and no two lists of the living share one.
use Rattle.std.proofs.Common.{◌⊎◌, inl, inr, ◌≡◌, ℕ, zero, suc, ◌+◌, ◌-◌, ◌<◌, ◌≤◌, Bool, true, false, Option, None, Some, List, [], ◌∷◌, ◌++◌, length, drop, refl, ap, sym, ◌∙◌, arith}
use Rattle.std.proofs.Math.Dec.{eqb}
use Rattle.std.proofs.lemmas.Bool.{cond_both, eqb-true, false≢true, or_cases}
use Rattle.std.specs.Prelude.{filter, nat_lt}
use Rattle.std.specs.List.{AllByRecursion}
use Rattle.pool_history.specs.declared.templates.TipData.{TipData}
use Rattle.pool_history.specs.Jobs.{Brought, Came, Job, JobMove, Standing, Tipped, at_most_sixteen, future_in, has_number, has_template, is_own, job_moves, jobs_told, last, made_live, with_custom, with_template, with_tip, without_first, template_job, custom_job, live_at_once}
use Rattle.pool_history.specs.Sessions.{past_of}
use Rattle.pool_history.proofs.PlacesOfClasses.{all-end, all-weaken}
use Rattle.history_laws.specs.Numbering.{AreRising, IsNumberWithin, JobsAreNumbered, RiseTo}
use Rattle.history_laws.proofs.Counted.{not_in}
use Rattle.history_laws.proofs.Holding.{Pairwise, all-find, pairwise-end}
use Rattle.history_laws.proofs.Living.{In, in-end, in-last, in-sixteen, length-one}

-- a number is below another
abbrev pub IsLower : Job → Job → Type 0
IsLower a b = a.number < b.number

-- jobs whose numbers rise, from 1 to so many at most
pub record Rises (most : ℕ) (jobs : List Job) : Type 0 where
  pub rising : Pairwise IsLower jobs
  pub within : AllByRecursion (IsNumberWithin most) jobs

pub rises-none : (most : ℕ) → Rises most []
rises-none most = record { rising = tt; within = tt }

pub are-rising : (jobs : List Job) → Pairwise IsLower jobs → AreRising jobs
are-rising [] r = tt
are-rising (job ∷ jobs) r = (r.0, are-rising jobs r.1)

pub rise-to : (most : ℕ) (jobs : List Job) → Rises most jobs → RiseTo most jobs
rise-to most jobs r = record { rising = are-rising jobs r.rising; within = r.within }

-- up to a greater number
pub within-more : (most more : ℕ) (job : Job) → most ≤ more → IsNumberWithin most job → IsNumberWithin more job
within-more most more job up w = let m : job.number ≤ most = w.most in record { some = w.some; most = omega (arith, m, up) }

pub rises-more : (most more : ℕ) (jobs : List Job) → most ≤ more → Rises most jobs → Rises more jobs
rises-more most more jobs up r = record {
  rising = r.rising;
  within = all-weaken (IsNumberWithin most) (IsNumberWithin more) (λ job w. within-more most more job up w) jobs r.within;
}

-- with the next number at the end
pub rises-end : (most more : ℕ) (jobs : List Job) (job : Job) → more ≡ most + 1 → job.number ≡ most + 1 → Rises most jobs → Rises more (jobs ++ job ∷ [])
rises-end most more jobs job up number r = record {
  rising = pairwise-end IsLower jobs job
      (all-weaken (IsNumberWithin most) (λ other. IsLower other job) (λ other w. let m : other.number ≤ most = w.most in omega (arith, m, number)) jobs r.within)
      r.rising;
  within = all-end (IsNumberWithin more) jobs job
      (all-weaken (IsNumberWithin most) (IsNumberWithin more) (λ other w. within-more most more other (omega (arith, up)) w) jobs r.within)
      (record { some = omega (arith, number); most = omega (arith, number, up) });
}

-- without the first ones
pub rises-drop : (most count : ℕ) (jobs : List Job) → Rises most jobs → Rises most (drop count jobs)
rises-drop most zero jobs r = r
rises-drop most (suc count) [] r = r
rises-drop most (suc count) (job ∷ jobs) r = rises-drop most count jobs (record { rising = r.rising.1; within = r.within.1 })

pub rises-last : (most count : ℕ) (jobs : List Job) → Rises most jobs → Rises most (last count jobs)
rises-last most count jobs r = rises-drop most (length jobs - count) jobs r

-- without the first of a channel's own
pub all-without : (P : Job → Type 0) (channel : ℕ) (jobs : List Job) → AllByRecursion P jobs → AllByRecursion P (without_first channel jobs)
all-without P channel [] a = tt
all-without P channel (job ∷ jobs) a =
    cond_both (is_own channel job.source) jobs (job ∷ without_first channel jobs) (AllByRecursion P) (λ t. a.1) (λ f. (a.0, all-without P channel jobs a.1))

pub pairwise-without : (channel : ℕ) (jobs : List Job) → Pairwise IsLower jobs → Pairwise IsLower (without_first channel jobs)
pairwise-without channel [] r = tt
pairwise-without channel (job ∷ jobs) r =
    cond_both (is_own channel job.source) jobs (job ∷ without_first channel jobs) (Pairwise IsLower) (λ t. r.1)
    (λ f. (all-without (IsLower job) channel jobs r.0, pairwise-without channel jobs r.1))

pub rises-sixteen : (most channel : ℕ) (jobs : List Job) → Rises most jobs → Rises most (at_most_sixteen channel jobs)
rises-sixteen most channel jobs r =
    cond_both (nat_lt 16 (length (filter (λ job. is_own channel job.source) jobs))) (without_first channel jobs) jobs (Rises most)
    (λ t. record { rising = pairwise-without channel jobs r.rising; within = all-without (IsNumberWithin most) channel jobs r.within }) (λ f. r)

-- what a tip made live
pub rises-made : (most at id : ℕ) (future : List Job) → Rises most future → Rises most (made_live at (future_in future id))
rises-made most at id future r = by_job (future_in future id) refl where
  by_job : (o : Option Job) → future_in future id ≡ o → Rises most (made_live at o)
  by_job None is = rises-none most
  by_job (Some job) is =
      let w : IsNumberWithin most job = all-find (IsNumberWithin most) (λ other. has_template id other.source) future job r.within is in
      record { rising = (tt, tt); within = (record { some = w.some; most = w.most }, tt) }

-- no job of one list has the number of a job of the other
abbrev pub ShareNoNumber : List Job → List Job → Type 0
ShareNoNumber xs ys = (a b : Job) → In a xs → In b ys → a.number ≡ b.number → ⊥

pub in-within : (most : ℕ) (jobs : List Job) (job : Job) → AllByRecursion (IsNumberWithin most) jobs → In job jobs → job.number ≤ most
in-within most [] job a i = elim i [ ]
in-within most (x ∷ jobs) job a (inl same) = let m : x.number ≤ most = a.0.most in let n : job.number ≡ x.number = ap (λ j. j.number) same in omega (arith, m, n)
in-within most (x ∷ jobs) job a (inr i) = in-within most jobs job a.1 i

pub share-turned : (xs ys : List Job) → ShareNoNumber xs ys → ShareNoNumber ys xs
share-turned xs ys apart a b i k same = apart b a k i (sym same)

-- a list that has none but one with the next number more
pub share-more : (most : ℕ) (xs more ys : List Job) (new : Job) → ((j : Job) → In j more → In j xs ⊎ (j ≡ new)) → new.number ≡ most + 1
    → AllByRecursion (IsNumberWithin most) ys → ShareNoNumber xs ys → ShareNoNumber more ys
share-more most xs more ys new of number within apart a b i k same = by_case (of a i) where
  by_case : In a xs ⊎ (a ≡ new) → ⊥
  by_case (inl old) = apart a b old k same
  by_case (inr e) =
      let n : a.number ≡ most + 1 = ap (λ j. j.number) e ∙ number in
      let m : b.number ≤ most = in-within most ys b within k in
      omega (arith, n, m, same)

-- the numbers of the jobs of a standing
pub record Numbers (s : Standing) : Type 0 where
  pub all : Rises (length s.all) s.all
  pub future : Rises (length s.all) s.future
  pub live : Rises (length s.all) s.live
  pub custom : Rises (length s.all) s.custom
  pub not_live : ShareNoNumber s.future s.live
  pub not_custom : ShareNoNumber s.future s.custom
  pub not_both : ShareNoNumber s.live s.custom

pub numbers-template : (s : Standing) (job : Job) (future : Bool) → job.number ≡ length s.all + 1 → Numbers s → Numbers (with_template job future s)
numbers-template s job true number n =
    let more : length (s.all ++ job ∷ []) ≡ length s.all + 1 = length-one s.all job in
    let up : length s.all ≤ length (s.all ++ job ∷ []) = omega (arith, more) in
    record {
      all = rises-end (length s.all) (length (s.all ++ job ∷ [])) s.all job more number n.all;
      future = rises-last (length (s.all ++ job ∷ [])) 16 (s.future ++ job ∷ [])
          (rises-end (length s.all) (length (s.all ++ job ∷ [])) s.future job more number n.future);
      live = rises-more (length s.all) (length (s.all ++ job ∷ [])) s.live up n.live;
      custom = rises-more (length s.all) (length (s.all ++ job ∷ [])) s.custom up n.custom;
      not_live = share-more (length s.all) s.future (last 16 (s.future ++ job ∷ [])) s.live job
          (λ j i. in-end j s.future job (in-last j 16 (s.future ++ job ∷ []) i)) number n.live.within n.not_live;
      not_custom = share-more (length s.all) s.future (last 16 (s.future ++ job ∷ [])) s.custom job
          (λ j i. in-end j s.future job (in-last j 16 (s.future ++ job ∷ []) i)) number n.custom.within n.not_custom;
      not_both = n.not_both;
    }
numbers-template s job false number n =
    let more : length (s.all ++ job ∷ []) ≡ length s.all + 1 = length-one s.all job in
    let up : length s.all ≤ length (s.all ++ job ∷ []) = omega (arith, more) in
    record {
      all = rises-end (length s.all) (length (s.all ++ job ∷ [])) s.all job more number n.all;
      future = rises-more (length s.all) (length (s.all ++ job ∷ [])) s.future up n.future;
      live = rises-last (length (s.all ++ job ∷ [])) 64 (s.live ++ live_at_once job ∷ [])
          (rises-end (length s.all) (length (s.all ++ job ∷ [])) s.live (live_at_once job) more number n.live);
      custom = rises-more (length s.all) (length (s.all ++ job ∷ [])) s.custom up n.custom;
      not_live = share-turned (last 64 (s.live ++ live_at_once job ∷ [])) s.future
          (share-more (length s.all) s.live (last 64 (s.live ++ live_at_once job ∷ [])) s.future (live_at_once job)
          (λ j i. in-end j s.live (live_at_once job) (in-last j 64 (s.live ++ live_at_once job ∷ []) i)) number n.future.within (share-turned s.future s.live n.not_live));
      not_custom = n.not_custom;
      not_both = share-more (length s.all) s.live (last 64 (s.live ++ live_at_once job ∷ [])) s.custom (live_at_once job)
          (λ j i. in-end j s.live (live_at_once job) (in-last j 64 (s.live ++ live_at_once job ∷ []) i)) number n.custom.within n.not_both;
    }

pub numbers-custom : (s : Standing) (job : Job) (channel : ℕ) → job.number ≡ length s.all + 1 → Numbers s → Numbers (with_custom job channel s)
numbers-custom s job channel number n =
    let more : length (s.all ++ job ∷ []) ≡ length s.all + 1 = length-one s.all job in
    let up : length s.all ≤ length (s.all ++ job ∷ []) = omega (arith, more) in
    record {
      all = rises-end (length s.all) (length (s.all ++ job ∷ [])) s.all job more number n.all;
      future = rises-more (length s.all) (length (s.all ++ job ∷ [])) s.future up n.future;
      live = rises-more (length s.all) (length (s.all ++ job ∷ [])) s.live up n.live;
      custom = rises-sixteen (length (s.all ++ job ∷ [])) channel (s.custom ++ live_at_once job ∷ [])
          (rises-end (length s.all) (length (s.all ++ job ∷ [])) s.custom (live_at_once job) more number n.custom);
      not_live = n.not_live;
      not_custom = share-turned (at_most_sixteen channel (s.custom ++ live_at_once job ∷ [])) s.future
          (share-more (length s.all) s.custom (at_most_sixteen channel (s.custom ++ live_at_once job ∷ [])) s.future (live_at_once job)
          (λ j i. in-end j s.custom (live_at_once job) (in-sixteen j channel (s.custom ++ live_at_once job ∷ []) i)) number n.future.within
          (share-turned s.future s.custom n.not_custom));
      not_both = share-turned (at_most_sixteen channel (s.custom ++ live_at_once job ∷ [])) s.live
          (share-more (length s.all) s.custom (at_most_sixteen channel (s.custom ++ live_at_once job ∷ [])) s.live (live_at_once job)
          (λ j i. in-end j s.custom (live_at_once job) (in-sixteen j channel (s.custom ++ live_at_once job ∷ []) i)) number n.live.within
          (share-turned s.live s.custom n.not_both));
    }

pub numbers-tip : (s : Standing) (at : ℕ) (tip : TipData) → Numbers s → Numbers (with_tip at tip s)
numbers-tip s at tip n = record {
  all = n.all;
  future = rises-none (length s.all);
  live = rises-made (length s.all) at tip.template_id s.future n.future;
  custom = rises-none (length s.all);
  not_live = λ a b i k same. elim i [ ];
  not_custom = λ a b i k same. elim i [ ];
  not_both = λ a b i k same. elim k [ ];
}

pub numbers-told : (moves : List JobMove) → Numbers (jobs_told moves)
numbers-told [] = record {
  all = rises-none 0;
  future = rises-none 0;
  live = rises-none 0;
  custom = rises-none 0;
  not_live = λ a b i k same. elim i [ ];
  not_custom = λ a b i k same. elim i [ ];
  not_both = λ a b i k same. elim i [ ];
}
numbers-told (Came at session template ∷ older) =
    let s : Standing = jobs_told older in
    numbers-template s (template_job (length s.all + 1) at session template) template.future_template refl
    (numbers-told older)
numbers-told (Tipped at tip ∷ older) = numbers-tip (jobs_told older) at tip (numbers-told older)
numbers-told (Brought at custom ∷ older) =
    let s : Standing = jobs_told older in
    numbers-custom s (custom_job (length s.all + 1) at custom) custom.channel_id refl
    (numbers-told older)

-- a number that a list has is that of a job of it
pub record HasJob (jobs : List Job) (number : ℕ) : Type 0 where
  pub job : Job
  pub is_in : In job jobs
  pub same : job.number ≡ number

pub has-job : (jobs : List Job) (number : ℕ) → has_number number jobs ≡ true → HasJob jobs number
has-job [] number h = absurd (false≢true h)
has-job (job ∷ jobs) number h = by_case (or_cases (eqb job.number number) (has_number number jobs) h) (λ there. has-job jobs number there) where
  by_case : (eqb job.number number ≡ true) ⊎ (has_number number jobs ≡ true) → (has_number number jobs ≡ true → HasJob jobs number) → HasJob (job ∷ jobs) number
  by_case (inl same) deeper = record { job = job; is_in = inl refl; same = eqb-true job.number number same }
  by_case (inr there) deeper =
      let found : HasJob jobs number = deeper there in
      record { job = found.job; is_in = inr found.is_in; same = found.same }

pub has-none : (xs ys : List Job) → ShareNoNumber xs ys → (number : ℕ) → has_number number xs ≡ true → has_number number ys ≡ false
has-none xs ys apart number h =
    not_in (has_number number ys) (λ there.
    let a : HasJob xs number = has-job xs number h in
    let b : HasJob ys number = has-job ys number there in
    apart a.job b.job a.is_in b.is_in (a.same ∙ sym b.same))

pub jobs-numbered_so : JobsAreNumbered
jobs-numbered_so h =
    let s : Standing = jobs_told (job_moves (past_of h)) in
    let n : Numbers s = numbers-told (job_moves (past_of h)) in
    record {
      all = rise-to (length s.all) s.all n.all;
      future = rise-to (length s.all) s.future n.future;
      live = rise-to (length s.all) s.live n.live;
      custom = rise-to (length s.all) s.custom n.custom;
      not_live = has-none s.future s.live n.not_live;
      not_custom = has-none s.future s.custom n.not_custom;
      not_both = has-none s.live s.custom n.not_both;
    }
