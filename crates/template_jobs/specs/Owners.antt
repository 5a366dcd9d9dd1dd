-- Whose the miners' own jobs are, as they are kept (this project's own).
use Rattle.std.specs.Prelude.{ℕ, ◌<◌, Bool, false, Option, None, Some, List, [], ◌∷◌}
use Rattle.std.specs.List.{AllByRecursion}
use Rattle.history_laws.specs.KeptJobs.{OwnJob, is_others}
use Rattle.template_jobs.specs.declared.owner.Owner.{Owner}

-- a miner's own job among the owners
abbrev pub own_job : Owner → OwnJob
own_job owner = record { number = owner.job; channel = owner.channel }

-- each owner's job has a lower number than those behind it
abbrev pub AreRising : List Owner → Type 0
AreRising [] = Unit
AreRising (owner ∷ later) =
    AllByRecursion (λ other. owner.job < other.job) later × AreRising later

-- an owner, if there is one, is another channel's of the job with a number
abbrev pub other_at : ℕ → ℕ → Option Owner → Bool
other_at channel number None = false
other_at channel number (Some owner) = is_others channel number (own_job owner)
