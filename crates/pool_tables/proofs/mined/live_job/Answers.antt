use Rattle.template_jobs.specs.Tables.{kept_jobs}
use Rattle.pool_tables.proofs.Found.{found-live, not_future}
use Rattle.pool_tables.proofs.mined.live_job.Goals as goal

pub returns-clause-job : goal.returns-clause-job
returns-clause-job c =
    found-live c.args.jobs.now.future c.args.jobs.now.live c.args.jobs.now.custom c.args.job _ c.job.ensures.found
    (not_future (kept_jobs c.args.jobs.now) c.args.job c.requires)
