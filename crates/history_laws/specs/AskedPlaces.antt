-- The places of a history at which classes may still be asked for: those since which its live jobs
-- are live, and all that are to come (this project's own).
use Rattle.std.specs.Prelude.{◌≡◌, ◌≤◌, ◌||◌, ℕ, Bool, true, false, List, ◌++◌, length, nat_eq, nat_le}
use Rattle.std.specs.List.{list_any}
use Rattle.std.specs.Option.{option_map_or}
use Rattle.pool_history.specs.declared.events.Event.{Event}
use Rattle.pool_history.specs.declared.spans.LiveSpan.{LiveSpan}
use Rattle.pool_history.specs.Jobs.{Job, jobs_of}

-- a job is live since this place
abbrev pub is_live_since : ℕ → Job → Bool
is_live_since place job = option_map_or (nat_eq place) job.live_at false

-- after a history, a class may be asked for at this place
abbrev pub is_asked_after : List Event → ℕ → Bool
is_asked_after past place =
    list_any (is_live_since place) ((jobs_of past).live ++ (jobs_of past).custom)
    || nat_le (length past) place

-- the jobs are live since places within these bounds
abbrev pub AreLiveWithin : LiveSpan → List Job → Type 0
AreLiveWithin span jobs =
    (place : ℕ) → list_any (is_live_since place) jobs ≡ true
    → (span.oldest ≤ place) × (place ≤ span.newest)
