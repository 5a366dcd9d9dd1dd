-- A channel keeps its last sixteen.
use Rattle.std.proofs.Common.{◌≡◌, ℕ, suc, ◌+◌, ◌≤◌, Bool, true, false, cond, Option, None, Some, List, [], ◌∷◌, ◌++◌, length, map, append-nil, refl, ap, ap₂, sym, ◌∙◌, arith}
use Rattle.std.proofs.lemmas.Bool.{ltb-false}
use Rattle.std.proofs.lemmas.List.{drop_all, take_all}
use Rattle.std.proofs.lemmas.List.Sums.{sum_by-cons}
use Rattle.std.specs.List.{AllByRecursion, position_or_len, remove}
use Rattle.std.specs.Prelude.{count_by, filter, nat_lt, not, position}
use Rattle.pool_history.specs.Jobs.{Job, at_most_sixteen, is_own, without_first}
use Rattle.template_jobs.specs.HeldJobs.{HeldJob, as_job}
use Rattle.template_jobs.specs.Lists.{surplus, without, without_surplus}
use Rattle.template_jobs.proofs.Parts.{all-removed}

abbrev owned : ℕ → HeldJob → Bool
owned channel held = is_own channel held.source

own-length : (channel : ℕ) (jobs : List HeldJob)
    → length (filter (λ (job : Job). is_own channel job.source) (map as_job jobs)) ≡ count_by (owned channel) jobs
own-length channel [] = refl
own-length channel (job ∷ jobs) =
    by (owned channel job) (own-length channel jobs) ∙ sym (sum_by-cons (λ held. cond (owned channel held) 1 0) job jobs) where
      rest : List Job
      rest = filter (λ (other : Job). is_own channel other.source) (map as_job jobs)

      by : (b : Bool) → length rest ≡ count_by (owned channel) jobs → length (cond b (as_job job ∷ rest) rest) ≡ cond b 1 0 + count_by (owned channel) jobs
      by true e = omega (arith, e)
      by false e = omega (arith, e)

first-removed : (channel : ℕ) (jobs : List HeldJob)
    → without_first channel (map as_job jobs) ≡ map as_job (remove jobs (position_or_len (owned channel) jobs))
first-removed channel [] = refl
first-removed channel (job ∷ jobs) = by (owned channel job) (first-removed channel jobs) where
  at : ℕ
  at = position_or_len (owned channel) jobs

  by : (b : Bool) → without_first channel (map as_job jobs) ≡ map as_job (remove jobs at)
      → cond b (map as_job jobs) (as_job job ∷ without_first channel (map as_job jobs))
      ≡ map as_job (remove (job ∷ jobs) (cond (not b) (1 + at) 0))
  by true e = refl
  by false e = ap (λ l. as_job job ∷ l) e ∙ ap (λ n. map as_job (remove (job ∷ jobs) n)) (one at) where
    one : (n : ℕ) → suc n ≡ 1 + n
    one n = omega arith

remove-past : {X : Type 0} (n : ℕ) (xs : List X) → length xs ≤ n → remove xs n ≡ xs
remove-past n xs past = ap₂ (λ a b. a ++ b) (take_all n xs past) (drop_all (suc n) xs (omega (arith, past))) ∙ append-nil xs

removed-if : (at : ℕ) (jobs : List HeldJob) (b : Bool) → nat_lt at (length jobs) ≡ b → remove jobs at ≡ without (cond b (Some at) None) jobs
removed-if at jobs true is = refl
removed-if at jobs false is = remove-past at jobs (ltb-false at (length jobs) is)

pub sixteen-map : (channel : ℕ) (jobs : List HeldJob) → at_most_sixteen channel (map as_job jobs) ≡ map as_job (without_surplus channel jobs)
sixteen-map channel jobs =
    ap (λ n. cond (nat_lt 16 n) (without_first channel (map as_job jobs)) (map as_job jobs)) (own-length channel jobs)
    ∙ by (nat_lt 16 (count_by (owned channel) jobs)) where
      at : ℕ
      at = position_or_len (owned channel) jobs

      by : (b : Bool) → cond b (without_first channel (map as_job jobs)) (map as_job jobs)
          ≡ map as_job (without (cond b (position (owned channel) jobs) None) jobs)
      by true = first-removed channel jobs ∙ ap (map as_job) (removed-if at jobs (nat_lt at (length jobs)) refl)
      by false = refl

pub all-within : (P : HeldJob → Type 0) (channel : ℕ) (jobs : List HeldJob) → AllByRecursion P jobs → AllByRecursion P (without_surplus channel jobs)
all-within P channel jobs all = by (surplus channel jobs) where
  by : (o : Option ℕ) → AllByRecursion P (without o jobs)
  by None = all
  by (Some at) = all-removed P at jobs all
