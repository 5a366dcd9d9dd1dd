-- A live job is found among those that are held.
use Rattle.std.proofs.Common.{◌≡◌, ℕ, Bool, true, false, ◌||◌, cond, Option, None, Some, List, [], ◌∷◌, ◌++◌, map, refl, ap, sym, subst, ◌∙◌, append_assoc}
use Rattle.std.proofs.lemmas.List.{map-append}
use Rattle.std.specs.Prelude.{find, nat_eq}
use Rattle.pool_history.specs.declared.events.JobState.{JobState}
use Rattle.pool_history.specs.declared.events.JobState.TheVariants as state
use Rattle.pool_history.specs.Jobs.{Job, has_number, job_numbered}
use Rattle.pool_history.specs.Judging.{is_known_state}
use Rattle.history_laws.specs.KeptJobs.{KeptJobs, state_by}
use Rattle.template_jobs.specs.HeldJobs.{HeldJob, as_job}

-- behind jobs that haven't the number
or-false : (a b : Bool) → (a || b) ≡ false → (a ≡ false) × (b ≡ false)
or-false false b h = (refl, h)
or-false true b h = absurd cc

behind-one : (number : ℕ) (job : Job) (b : Bool) (rest more : Option Job) → b ≡ false → rest ≡ more → cond b (Some job) rest ≡ more
behind-one number job b rest more is same = ap (λ t. cond t (Some job) rest) is ∙ same

behind : (number : ℕ) (jobs more : List Job) → has_number number jobs ≡ false → job_numbered number (jobs ++ more) ≡ job_numbered number more
behind number [] more none = refl
behind number (job ∷ jobs) more none =
    let parts = or-false (nat_eq job.number number) (has_number number jobs) none in
    behind-one number job (nat_eq job.number number) (job_numbered number (jobs ++ more)) (job_numbered number more) parts.0 (behind number jobs more parts.1)

known-not : (b : Bool) (rest : JobState) → is_known_state (cond b state.Future rest) ≡ true → b ≡ false
known-not false rest h = refl
known-not true rest h = absurd cc

pub not_future : (kept : KeptJobs) (number : ℕ) → is_known_state (state_by kept number) ≡ true → has_number number kept.future ≡ false
not_future kept number known = known-not (has_number number kept.future) _ known

pub found-live : (future live custom : List HeldJob) (number : ℕ) (o : Option Job)
    → o ≡ job_numbered number (map as_job (future ++ live ++ custom)) → has_number number (map as_job future) ≡ false
    → o ≡ job_numbered number (map as_job live ++ map as_job custom)
found-live future live custom number o found none =
    found
    ∙ ap (job_numbered number) (map-append as_job (future ++ live) custom
    ∙ ap (λ l. l ++ map as_job custom) (map-append as_job future live) ∙ append_assoc (map as_job future) (map as_job live) (map as_job custom))
    ∙ behind number (map as_job future) (map as_job live ++ map as_job custom) none
