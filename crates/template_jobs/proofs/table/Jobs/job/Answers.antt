use Rattle.std.proofs.Common.{◌≡◌, ℕ, ◌==◌, Option, None, Some, List, ◌++◌, ap, sym, ◌∙◌}
use Rattle.std.specs.Option.{option_copied}
use Rattle.std.specs.Prelude.{find}
use Rattle.template_jobs.specs.HeldJobs.{HasCoinbase, HeldJob}
use Rattle.template_jobs.specs.Tables.{JobTable, held_jobs}
use Rattle.template_jobs.proofs.Mapped.{answer-found, find-front, find-past, some-all}
use Rattle.template_jobs.proofs.table.Jobs.job.Goals as goal

abbrev with_number : ℕ → List HeldJob → Option HeldJob
with_number number jobs = find (λ (job : HeldJob). job.number == number) jobs

abbrev passes : ℕ → HeldJob → Rattle.std.proofs.Common.Bool
passes number job = job.number == number

pub returns-in-Some : goal.returns-in-Some
returns-in-Some c =
    let own : with_number c.args.id c.self.inside.future.items ≡ Some c.in-Some.job.now =
    sym (ap (with_number c.args.id) c.deref.ensures.value) ∙ sym c.job_numbered.ensures ∙ ap option_copied c.in-Some.is in
    let which : Some c.in-Some.job.now ≡ with_number c.args.id (held_jobs c.args.self.now) =
    sym (find-front (passes c.args.id) (c.self.inside.future.items ++ c.self.inside.live.items) c.self.inside.custom.items c.in-Some.job.now
    (find-front (passes c.args.id) c.self.inside.future.items c.self.inside.live.items c.in-Some.job.now own))
    ∙ ap (λ (table : JobTable). with_number c.args.id (held_jobs table)) c.self.view_is in
    record {
      found = answer-found c.args.id (held_jobs c.args.self.now) (Some c.in-Some.job.now) which;
      coinbase = λ script all. some-all (HasCoinbase script) (passes c.args.id) (held_jobs c.args.self.now) (Some c.in-Some.job.now) which all;
    }

pub returns-in-Some-job_numbered : goal.returns-in-Some-job_numbered
returns-in-Some-job_numbered c =
    let none : with_number c.args.id c.self.inside.future.items ≡ None =
    sym (ap (with_number c.args.id) c.deref.ensures.value) ∙ sym c.job_numbered.ensures ∙ ap option_copied c.in_default.is in
    let own : with_number c.args.id c.self.inside.live.items ≡ Some c.in-Some-job_numbered.job.now =
    sym (ap (with_number c.args.id) c.deref-2.ensures.value) ∙ sym c.job_numbered-2.ensures ∙ ap option_copied c.in-Some-job_numbered.is in
    let which : Some c.in-Some-job_numbered.job.now ≡ with_number c.args.id (held_jobs c.args.self.now) =
    sym (find-front (passes c.args.id) (c.self.inside.future.items ++ c.self.inside.live.items) c.self.inside.custom.items c.in-Some-job_numbered.job.now
    (find-past (passes c.args.id) c.self.inside.future.items c.self.inside.live.items none ∙ own))
    ∙ ap (λ (table : JobTable). with_number c.args.id (held_jobs table)) c.self.view_is in
    record {
      found = answer-found c.args.id (held_jobs c.args.self.now) (Some c.in-Some-job_numbered.job.now) which;
      coinbase = λ script all. some-all (HasCoinbase script) (passes c.args.id) (held_jobs c.args.self.now) (Some c.in-Some-job_numbered.job.now) which all;
    }

pub returns : goal.returns
returns c =
    let none : with_number c.args.id c.self.inside.future.items ≡ None =
    sym (ap (with_number c.args.id) c.deref.ensures.value) ∙ sym c.job_numbered.ensures ∙ ap option_copied c.in_default.is in
    let neither : with_number c.args.id c.self.inside.live.items ≡ None =
    sym (ap (with_number c.args.id) c.deref-2.ensures.value) ∙ sym c.job_numbered-2.ensures ∙ ap option_copied c.in_default-job_numbered.is in
    let which : option_copied c.job_numbered-3.result ≡ with_number c.args.id (held_jobs c.args.self.now) =
    c.job_numbered-3.ensures ∙ ap (with_number c.args.id) c.deref-3.ensures.value
    ∙ sym (find-past (passes c.args.id) (c.self.inside.future.items ++ c.self.inside.live.items) c.self.inside.custom.items
    (find-past (passes c.args.id) c.self.inside.future.items c.self.inside.live.items none ∙ neither))
    ∙ ap (λ (table : JobTable). with_number c.args.id (held_jobs table)) c.self.view_is in
    record {
      found = answer-found c.args.id (held_jobs c.args.self.now) (option_copied c.job_numbered-3.result) which;
      coinbase = λ script all. some-all (HasCoinbase script) (passes c.args.id) (held_jobs c.args.self.now) (option_copied c.job_numbered-3.result) which all;
    }
