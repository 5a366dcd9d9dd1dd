use Rattle.std.proofs.Common.{◌≡◌, ℕ, ◌^◌, ◌++◌, List, [], ◌∷◌, length, arith, ap, sym, subst, ◌∙◌}
use Rattle.std.specs.Prelude.{OnOk}
use Rattle.sv2_types.specs.Fields.{Number, Numbers}
use Rattle.sv2_types.proofs.Items.{length-numbers}
use Rattle.sv2_messages.specs.declared.kinds.TheConstants as kinds
use Rattle.sv2_messages.specs.Messages.{FitsFrame}
use Rattle.sv2_messages.specs.Tables.{declare_table}
use Rattle.job_declaration.specs.Declaring.{missing_frame}
use Rattle.job_declaration.specs.Filling.{missing_places}
use Rattle.job_declaration.proofs.Fitting.{missing_fits}
use Rattle.job_declaration.proofs.Lists.{few_missing, numbers_of-missing, small_missing}
use Rattle.job_declaration.proofs.frames.put_missing.Goals as goal

pub of-requires-clause-even : goal.of-requires-clause-even
of-requires-clause-even c =
    let spelled = c.deref.ensures.value ∙ c.in_ok-spelled.ensures in
    omega (arith, ap length spelled, length-numbers (missing_places c.args.listed.now))

pub of-requires-clause-count_fits : goal.of-requires-clause-count_fits
of-requires-clause-count_fits c =
    let spelled = c.deref.ensures.value ∙ c.in_ok-spelled.ensures in
    omega (
      arith,
      ap length spelled,
      length-numbers (missing_places c.args.listed.now),
      few_missing 0 c.args.listed.now,
      c.requires,
    )

pub frame-requires : goal.frame-requires
frame-requires c =
    let spelled = c.of.ensures.spelled ∙ c.deref.ensures.value ∙ c.in_ok-spelled.ensures in
    let same = numbers_of-missing c.args.listed.now c.of.result.spelled.now c.requires spelled in
    let P : List ℕ → Type 0 = λ places. FitsFrame declare_table (record { kind = kinds.PROVIDE_MISSING_TRANSACTIONS; fields = Number c.args.request_id ∷ Numbers places ∷ [] }) in
    subst P (sym same)
    (missing_fits c.args.request_id (missing_places c.args.listed.now) (omega arith)
    (omega (arith, few_missing 0 c.args.listed.now, c.requires))
    (small_missing (2 ^ 16) 0 c.args.listed.now (omega (arith, c.requires))))

pub returns-clause-ok : goal.returns-clause-ok
returns-clause-ok c =
    let spelled = c.of.ensures.spelled ∙ c.deref.ensures.value ∙ c.in_ok-spelled.ensures in
    let same = numbers_of-missing c.args.listed.now c.of.result.spelled.now c.requires spelled in
    let P : List ℕ → Type 0 = λ places. OnOk c.frame.result (c.frame.new.out.items ≡ c.args.out.now.items ++ missing_frame c.args.request_id places) in
    subst P same c.frame.ensures.ok
