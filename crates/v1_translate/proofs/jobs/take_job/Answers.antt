use Rattle.std.proofs.Common.{◌==◌, position, sym, ap, Some, ◌∙◌}
use Rattle.v1_translate.specs.Heard.{ToldJob}
use Rattle.v1_translate.proofs.Firsts.{job_found, no_job}
use Rattle.v1_translate.proofs.jobs.take_job.Goals as goal

pub returns-in-Some : goal.returns-in-Some
returns-in-Some c =
    let same = ap (position (λ (job : ToldJob). job.number == c.args.number)) (sym c.as_slice.ensures.value) in
    ap (λ job. Some job) c.remove.ensures.value
    ∙ sym (job_found c.args.number c.args.jobs.now.items c.in-Some.place c.remove.result (same ∙ sym c.in-Some.ensures))

pub returns-in-None : goal.returns-in-None
returns-in-None c =
    let same = ap (position (λ (job : ToldJob). job.number == c.args.number)) (sym c.as_slice.ensures.value) in
    sym (no_job c.args.number c.args.jobs.now.items (same ∙ sym c.in-None.ensures))
