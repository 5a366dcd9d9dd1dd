-- A job with a time or without one is heard as it is held.
use Rattle.std.proofs.Common.{◌≡◌, ℕ, Option, None, Some, refl}
use Rattle.v1_translate.specs.Heard.{ToldJob, told_job}
use Rattle.proxy_rules.specs.State.{Relay}
use Rattle.proxy_rules.specs.Steps.{heard, job_heard}

pub job_is_heard : (relay : Relay) (min_ntime : Option ℕ) (job : ToldJob)
    → heard relay (told_job min_ntime job) ≡ job_heard relay (record { job = job; min_ntime = min_ntime })
job_is_heard relay None job = refl
job_is_heard relay (Some min_ntime) job = refl
