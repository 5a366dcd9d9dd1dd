-- Bounds of the places since which jobs are live (this project's own).
use Rattle.std.specs.Prelude.{◌≡◌, ◌≤◌, ℕ, Some, if◌then◌else◌, max, min}
use Rattle.pool_history.specs.declared.spans.LiveSpan.{LiveSpan}
use Rattle.pool_history.specs.Jobs.{Brought, Came, JobMove, Tipped}
use Rattle.template_jobs.specs.HeldJobs.{HeldJob}

-- a job that is live is so since a place within these bounds
abbrev pub IsLiveWithin : LiveSpan → HeldJob → Type 0
IsLiveWithin span job =
    (at : ℕ) → job.live_at ≡ Some at → (span.oldest ≤ at) × (at ≤ span.newest)

-- bounds that hold what others hold, and a place
pub record Widens (old new : LiveSpan) (at : ℕ) : Type 0 where
  pub oldest_holds : new.oldest ≤ old.oldest
  pub newest_holds : old.newest ≤ new.newest
  pub place_holds : (new.oldest ≤ at) × (at ≤ new.newest)

-- the bounds that hold what these hold, and a place, and no more
abbrev pub widened_by : ℕ → LiveSpan → LiveSpan
widened_by at span = record { oldest = min span.oldest at; newest = max span.newest at }

-- the bounds after a move: a tip's place alone; else those of before and, where a job is live at once,
-- its place
abbrev pub span_after : JobMove → LiveSpan → LiveSpan
span_after (Came at session template) span =
    if template.future_template then span else widened_by at span
span_after (Tipped at tip) span = record { oldest = at; newest = at }
span_after (Brought at custom) span = widened_by at span
