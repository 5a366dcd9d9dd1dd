use Rattle.std.proofs.Common.{◌≡◌, ℕ, Bool, true, false, ◌==◌, ◌||◌, List, ap, ap₂, map, refl, sym, ◌∙◌}
use Rattle.std.specs.List.{list_any}
use Rattle.history_laws.specs.KeptJobs.{is_number_of}
use Rattle.pool_history.specs.Jobs.{Job, has_number}
use Rattle.template_jobs.specs.HeldJobs.{HeldJob, as_job}
use Rattle.template_jobs.specs.Tables.{JobTable, kept_jobs}
use Rattle.template_jobs.proofs.Mapped.{any-map, state-is}
use Rattle.template_jobs.proofs.table.Jobs.state.Goals as goal

abbrev numbered : ℕ → List HeldJob → Bool
numbered number jobs = list_any (λ (job : HeldJob). job.number == number) jobs

among : (number : ℕ) (seen jobs : List HeldJob) → seen ≡ jobs → numbered number seen ≡ has_number number (map as_job jobs)
among number seen jobs same = ap (numbered number) same ∙ sym (any-map as_job (λ (job : Job). job.number == number) jobs)

pub returns-then-has_number : goal.returns-then-has_number
returns-then-has_number c =
    state-is (kept_jobs c.args.self.now) c.args.id true _ _
    (sym c.if-has_number.true ∙ c.has_number.ensures ∙ among c.args.id c.deref.result.now c.self.inside.future.items c.deref.ensures.value
    ∙ ap (λ (table : JobTable). has_number c.args.id (kept_jobs table).future) c.self.view_is)
    refl refl

pub returns-then-has_number_in : goal.returns-then-has_number_in
returns-then-has_number_in c =
    state-is (kept_jobs c.args.self.now) c.args.id false true _
    (sym c.if-has_number.false ∙ c.has_number.ensures ∙ among c.args.id c.deref.result.now c.self.inside.future.items c.deref.ensures.value
    ∙ ap (λ (table : JobTable). has_number c.args.id (kept_jobs table).future) c.self.view_is)
    (sym c.if-has_number_in.true ∙ c.has_number_in.ensures
    ∙ ap₂ (λ a b. a || b) (among c.args.id c.deref-else-has_number.result.now c.self.inside.live.items c.deref-else-has_number.ensures.value)
    (among c.args.id c.deref-else-has_number-2.result.now c.self.inside.custom.items c.deref-else-has_number-2.ensures.value)
    ∙ ap (λ (table : JobTable). has_number c.args.id (kept_jobs table).live || has_number c.args.id (kept_jobs table).custom) c.self.view_is)
    refl

pub returns-then-is_counted : goal.returns-then-is_counted
returns-then-is_counted c =
    state-is (kept_jobs c.args.self.now) c.args.id false false true
    (sym c.if-has_number.false ∙ c.has_number.ensures ∙ among c.args.id c.deref.result.now c.self.inside.future.items c.deref.ensures.value
    ∙ ap (λ (table : JobTable). has_number c.args.id (kept_jobs table).future) c.self.view_is)
    (sym c.if-has_number_in.false ∙ c.has_number_in.ensures
    ∙ ap₂ (λ a b. a || b) (among c.args.id c.deref-else-has_number.result.now c.self.inside.live.items c.deref-else-has_number.ensures.value)
    (among c.args.id c.deref-else-has_number-2.result.now c.self.inside.custom.items c.deref-else-has_number-2.ensures.value)
    ∙ ap (λ (table : JobTable). has_number c.args.id (kept_jobs table).live || has_number c.args.id (kept_jobs table).custom) c.self.view_is)
    (sym c.if-is_counted.true ∙ c.is_counted.ensures ∙ ap (λ (table : JobTable). is_number_of (kept_jobs table) c.args.id) c.self.view_is)

pub returns-else-is_counted : goal.returns-else-is_counted
returns-else-is_counted c =
    state-is (kept_jobs c.args.self.now) c.args.id false false false
    (sym c.if-has_number.false ∙ c.has_number.ensures ∙ among c.args.id c.deref.result.now c.self.inside.future.items c.deref.ensures.value
    ∙ ap (λ (table : JobTable). has_number c.args.id (kept_jobs table).future) c.self.view_is)
    (sym c.if-has_number_in.false ∙ c.has_number_in.ensures
    ∙ ap₂ (λ a b. a || b) (among c.args.id c.deref-else-has_number.result.now c.self.inside.live.items c.deref-else-has_number.ensures.value)
    (among c.args.id c.deref-else-has_number-2.result.now c.self.inside.custom.items c.deref-else-has_number-2.ensures.value)
    ∙ ap (λ (table : JobTable). has_number c.args.id (kept_jobs table).live || has_number c.args.id (kept_jobs table).custom) c.self.view_is)
    (sym c.if-is_counted.false ∙ c.is_counted.ensures ∙ ap (λ (table : JobTable). is_number_of (kept_jobs table) c.args.id) c.self.view_is)
