use Rattle.std.proofs.Common.{◌≡◌, None, Some, [], ◌∷◌, ◌++◌, ap, sym, ◌∙◌}
use Rattle.std.specs.Prelude.{position}
use Rattle.std.specs.Option.{option_map}
use Rattle.pool_history.specs.Jobs.{has_template}
use Rattle.template_jobs.specs.HeldJobs.{HeldJob}
use Rattle.template_jobs.specs.Lists.{of_template, turned_live}
use Rattle.template_jobs.proofs.Listed.{found-at, found-none}
use Rattle.template_jobs.proofs.lists.make_live.Goals as goal

pub returns-in_default-clause-number : goal.returns-in_default-clause-number
returns-in_default-clause-number c =
    let none : of_template c.args.id c.args.jobs.now.items ≡ None =
    found-none (λ (job : HeldJob). has_template c.args.id job.source) c.args.jobs.now.items
    (ap (position (λ (job : HeldJob). has_template c.args.id job.source)) (sym c.deref.ensures.value) ∙ sym c.place_of_template.ensures ∙ c.in_default.is) in
    ap (option_map (λ (job : HeldJob). job.number)) (sym none)

pub returns-clause-number : goal.returns-clause-number
returns-clause-number c =
    let one : of_template c.args.id c.args.jobs.now.items ≡ Some c.remove-job.result =
    found-at (λ (job : HeldJob). has_template c.args.id job.source) c.args.jobs.now.items c.in-Some.place c.remove-job.result
    (ap (position (λ (job : HeldJob). has_template c.args.id job.source)) (sym c.deref.ensures.value) ∙ sym c.place_of_template.ensures ∙ c.in-Some.is) c.remove-job.ensures.value in
    ap Some (c.number-number.ensures ∙ ap (λ (job : HeldJob). job.number) c.turn_live.ensures)
    ∙ ap (option_map (λ (job : HeldJob). job.number)) (sym one)

pub returns-clause-live : goal.returns-clause-live
returns-clause-live c =
    let one : of_template c.args.id c.args.jobs.now.items ≡ Some c.remove-job.result =
    found-at (λ (job : HeldJob). has_template c.args.id job.source) c.args.jobs.now.items c.in-Some.place c.remove-job.result
    (ap (position (λ (job : HeldJob). has_template c.args.id job.source)) (sym c.deref.ensures.value) ∙ sym c.place_of_template.ensures ∙ c.in-Some.is) c.remove-job.ensures.value in
    c.put.ensures.items ∙ ap (λ jobs. jobs ++ c.turn_live.new.self ∷ []) c.clear.ensures.items
    ∙ ap (λ job. job ∷ []) c.turn_live.ensures ∙ ap (turned_live c.args.at) (sym one)
