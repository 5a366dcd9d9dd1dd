use Rattle.std.proofs.Common.{◌≡◌, ◌++◌, map, take}
use Rattle.pool_history.specs.News.{job_note}
use Rattle.event_store.specs.Told.{heard_as, told_job}
use Rattle.event_store.proofs.notes.tell_job.Given as goal

abbrev pub invariant-loop-heard : goal.invariant-loop-heard
invariant-loop-heard l =
    l.notes.items
    ≡ l.initial.notes.items
    ++ map (job_note l.rules l.job.min_ntime (told_job l.job.number l.job.template.now)) (map heard_as (take l.heard-index l.to))
