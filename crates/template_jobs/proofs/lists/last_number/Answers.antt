use Rattle.std.proofs.Common.{Some, ap, sym, ◌∙◌}
use Rattle.std.specs.Option.{option_copied}
use Rattle.template_jobs.proofs.Mapped.{last-read, numbered}
use Rattle.pool_history.specs.Jobs.{last_of}
use Rattle.template_jobs.proofs.lists.last_number.Goals as goal

pub returns-in-Some : goal.returns-in-Some
returns-in-Some c =
    ap Some c.number.ensures
    ∙ numbered (last_of c.args.jobs.now) c.in-Some.job.now
    (last-read c.args.jobs.now ∙ sym c.last.ensures.value ∙ ap option_copied c.in-Some.is)
