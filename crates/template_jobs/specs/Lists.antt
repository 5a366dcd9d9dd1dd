-- Lists of jobs that are kept whole (this project's own).
use Rattle.std.specs.Prelude.{ℕ, if◌then◌else◌, Option, None, Some, List, [], ◌∷◌, count_by, find, nat_lt, position}
use Rattle.std.specs.List.{remove}
use Rattle.pool_history.specs.Jobs.{has_template, is_own}
use Rattle.template_jobs.specs.HeldJobs.{HeldJob}

-- the place of the first of a channel's own, where they are more than sixteen
abbrev pub surplus : ℕ → List HeldJob → Option ℕ
surplus channel jobs =
    if nat_lt 16 (count_by (λ job. is_own channel job.source) jobs)
    then position (λ job. is_own channel job.source) jobs else None

-- without what stands at a place
abbrev pub without : Option ℕ → List HeldJob → List HeldJob
without None jobs = jobs
without (Some at) jobs = remove jobs at

-- without that one
abbrev pub without_surplus : ℕ → List HeldJob → List HeldJob
without_surplus channel jobs = without (surplus channel jobs) jobs

-- the job of a template
abbrev pub of_template : ℕ → List HeldJob → Option HeldJob
of_template id jobs = find (λ job. has_template id job.source) jobs

-- it alone, since a tip made it live
abbrev pub turned_live : ℕ → Option HeldJob → List HeldJob
turned_live at None = []
turned_live at (Some job) = record job { live_at = Some at } ∷ []
