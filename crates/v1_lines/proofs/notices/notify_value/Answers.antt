use Rattle.v1_lines.specs.Jobs.{job_of}
use Rattle.v1_lines.proofs.Floats.{notified_without_floats}
use Rattle.v1_lines.proofs.notices.notify_value.Goals as goal

pub returns-clause-whole : goal.returns-clause-whole
returns-clause-whole c =
    notified_without_floats c.notice_value.result _ (job_of c.args.job.now) c.notice_value.ensures c.in_ok-params.ensures
