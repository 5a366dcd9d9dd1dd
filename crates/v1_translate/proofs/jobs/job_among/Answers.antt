use Rattle.std.proofs.Common.{ap, Some, sym, ◌∙◌}
use Rattle.v1_translate.proofs.Firsts.{job_found, no_job}
use Rattle.v1_translate.proofs.jobs.job_among.Goals as goal

pub returns-in-Some : goal.returns-in-Some
returns-in-Some c =
    ap (λ job. Some job) c.index-jobs-place.is
    ∙ sym (job_found c.args.number c.args.jobs.now c.in-Some.place c.index-jobs-place.result (sym c.in-Some.ensures))

pub returns-in-None : goal.returns-in-None
returns-in-None c = sym (no_job c.args.number c.args.jobs.now (sym c.in-None.ensures))
